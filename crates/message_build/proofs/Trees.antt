-- Laws of the trees of a message.
use Prim.Native.Nat.{ℕ, zero, suc, ◌+◌, ◌-◌, ◌*◌, ◌≤◌, ◌<◌}
use native.Mathlib.Omega.{arith}
use mathlib.Core.Path.{◌≡◌, refl, sym, ap, ◌∙◌}
use mathlib.Core.List.{List, ◌++◌}
use lib.ListN.{length, length-append}
use Rattle.encoding.specs.Pieces.{piece, splice}
use Rattle.encoding.proofs.Pieces.{piece_length, length_splice, splice_none, splice_then}
use Rattle.records.specs.Record.{tree_size}
use Rattle.part.specs.Layout.{tree_place}
use Rattle.part.specs.Cut.{renamed}
use Rattle.part.specs.Part.{global_number}
use Rattle.part.proofs.Records.{rows_length}
use Rattle.message.specs.Build.{part_record}
use Rattle.message.specs.Layout.{message_header}
use Rattle.message_build.specs.Means.{RecordRoom, records_from, TreesRoom}

-- where the record of a tree with local index t begins
pub place_is : (t first k : ℕ) {from : ℕ} → t + first ≡ k → from ≡ tree_place t → from ≡ tree_place (k - first)
place_is t first k e p = let s : t ≡ k - first = omega arith in p ∙ ap tree_place s

-- the loop: the trees before k are written, and the next goes to byte to
pub record TreesSent (part : List ℕ) (low n : ℕ) (out₀ : List ℕ) (to k : ℕ) (out : List ℕ) : Type 0 where
  pub begun : low ≤ k
  pub within : k ≤ low + n
  pub place : to ≡ message_header + tree_size * (k - low)
  pub same_length : length out ≡ length out₀
  pub written : out ≡ splice out₀ message_header (records_from (part_record part) low (k - low))

module _ (part : List ℕ) (count ghosts faces first low n : ℕ) (out₀ : List ℕ) (room : TreesRoom part out₀ count ghosts faces first low n) where
  -- the record of a tree that is sent lies in the part
  source : (k : ℕ) → low ≤ k → k < low + n → tree_place (k - first) + tree_size ≤ length part
  source k h l = let i = room.inside k h l in omega (arith, room.known.opened.long, i.0, i.1)

  record_is : (k : ℕ) → renamed (global_number part) faces (piece part (tree_place (k - first)) tree_size) ≡ part_record part k
  unfolding part_record
  record_is k = rw (room.known.is_faces, room.known.is_first)

  record_long : (k : ℕ) → low ≤ k → k < low + n → length (part_record part k) ≡ tree_size
  unfolding renamed
  record_long k h l =
      let p : length (piece part (tree_place (k - first)) tree_size) ≡ tree_size = piece_length part (tree_place (k - first)) tree_size (source k h l) in
      ap length (sym (record_is k)) ∙ rows_length _ faces (piece part (tree_place (k - first)) tree_size) (omega arith) ∙ p

  pub records_long : (m : ℕ) → m ≤ n → length (records_from (part_record part) low m) ≡ tree_size * m
  unfolding records_from
  records_long zero h = refl
  records_long (suc m) h = rw (length-append, records_long m (omega arith), record_long (low + m) (omega arith) (omega arith)) (omega arith)

  pub trees_start : TreesSent part low n out₀ message_header low out₀
  unfolding records_from
  trees_start =
      let z : low - low ≡ 0 = omega arith in
      record { begun = omega arith; within = omega arith; place = rw z; same_length = refl; written = rw z (sym (splice_none out₀ message_header)) }

  module _ {to k : ℕ} {out : List ℕ} (so_far : TreesSent part low n out₀ to k out) (more : k < low + n) where
    pub tree_from_lem : first ≤ k
    tree_from_lem = (room.inside k so_far.begun more).0

    pub tree_room : {from : ℕ} → from ≡ tree_place (k - first) → RecordRoom part out count ghosts faces tree_size from to
    tree_room e =
        record {
          opened = room.known.opened;
          faced = room.known.faced;
          source = rw e (source k so_far.begun more);
          target = omega (arith, so_far.place, so_far.same_length, so_far.begun, room.room);
        }

    next : records_from (part_record part) low (k + 1 - low) ≡ records_from (part_record part) low (k - low) ++ part_record part k
    unfolding records_from
    next =
        let a : k + 1 - low ≡ suc (k - low) = omega (arith, so_far.begun) in
        let b : low + (k - low) ≡ k = omega (arith, so_far.begun) in
        rw (a, b)

    pub trees_next : {from : ℕ} {last : List ℕ} → from ≡ tree_place (k - first) → last ≡ splice out to (renamed (global_number part) faces (piece part from tree_size)) → TreesSent part low n out₀ (to + tree_size) (k + 1) last
    trees_next {from} {last} e p =
        let m : ℕ = k - low in
        let W : List ℕ = records_from (part_record part) low m in
        let R : List ℕ = part_record part k in
        let l : length R ≡ tree_size = record_long k so_far.begun more in
        let q : last ≡ splice out to R = p ∙ ap (λ (x : ℕ). splice out to (renamed (global_number part) faces (piece part x tree_size))) e ∙ ap (splice out to) (record_is k) in
        let b : length W ≡ tree_size * m = records_long m (omega (arith, so_far.begun)) in
        let t = tree_room e in
        record {
          begun = omega (arith, so_far.begun);
          within = omega arith;
          place = omega (arith, so_far.place, so_far.begun);
          same_length = ap length q ∙ length_splice out to R (omega (arith, t.target)) ∙ so_far.same_length;
          written = splice_then out₀ message_header (tree_size * m) W R b (omega (arith, room.room, so_far.begun)) so_far.written (q ∙ ap (λ (o : ℕ). splice out o R) so_far.place) ∙ ap (splice out₀ message_header) (sym next);
        }

  pub trees_end : {to k : ℕ} {out : List ℕ} → TreesSent part low n out₀ to k out → low + n ≤ k → out ≡ splice out₀ message_header (records_from (part_record part) low n)
  trees_end {to} {k} s h =
      let e : k - low ≡ n = omega (arith, s.within) in
      rw e at s.written

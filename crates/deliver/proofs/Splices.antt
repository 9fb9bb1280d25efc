-- Splices into one of several lists in a row, and into an area.
use Prim.Native.Nat.{ℕ, ◌+◌, ◌-◌, ◌*◌, ◌≤◌, ◌<◌}
use native.Mathlib.Nat.{mul-le-mul_left}
use native.Mathlib.Omega.{arith}
use mathlib.Core.Path.{◌≡◌, sym, ap, ◌∙◌}
use mathlib.Core.Bool.{Bool}
use mathlib.Core.List.{List, ◌++◌, append_assoc, append-nil}
use lib.Dec.{ltb}
use lib.ListN.{length, take, drop, replicate, length-append, length-replicate, drop_of_length-le, replicate-append-replicate}
use lib.Seq.{length-take-le, take_all, take-append-le, drop-append-le, take-append-add, drop-append-add}
use Rattle.encoding.specs.Numbers.{le_bytes, le_put, put_u32, put_u64}
use Rattle.encoding.specs.Pieces.{piece, splice}
use borrow.Author.Tests.{ltb-true, ltb-false}
use Rattle.encoding.proofs.Below.{either}
use Rattle.encoding.proofs.Numbers.{bytes_length}
use Rattle.encoding.proofs.Pieces.{piece_below, piece_above, length_splice}
use Rattle.offsets.specs.Table.{ranks, trees, tree_count}
use Rattle.offsets.proofs.Tables.{size}
use Rattle.records.specs.Shape.{faces_in}
use Rattle.records.specs.Record.{core_size, tree_size}
use Rattle.pattern.specs.Sender.{Tables}
use Rattle.area.specs.Layout.{heard_words, ghost_bound, new_place, words_place, slots_place, ghost_slots_place, area_header_bytes, word_of, words_of, slots_of, area_with}
use Rattle.area_theorems.proofs.Joined.{piece_first, piece_behind, slots_length, slots_at, slots_same, slots_piece}
use Rattle.area_theorems.proofs.Heard.{words_slots}
use Rattle.area_theorems.proofs.Zones.{Zones, header_length}

-- ---- lists in a row

-- into the second of three
splice_zone : (x y z p : List ℕ) (off at : ℕ) → at ≡ length x + off → off + length p ≤ length y → splice (x ++ (y ++ z)) at p ≡ x ++ (splice y off p ++ z)
unfolding splice
splice_zone x y z p off at e h =
    let l : length x + off + length p ≡ length x + (off + length p) = omega arith in
    rw (e, l, take-append-add x (y ++ z) off, drop-append-add x (y ++ z) (off + length p), take-append-le off y z (omega arith), drop-append-le (off + length p) y z h) (simp append_assoc)

-- in the place of all bytes
splice_all : (y p : List ℕ) → length p ≡ length y → splice y 0 p ≡ p
unfolding splice
splice_all y p h = rw (drop_of_length-le y {i = 0 + length p} (omega arith), append-nil)

-- in the place of the second
splice_swap : (x y z p : List ℕ) (at : ℕ) → at ≡ length x → length p ≡ length y → splice (x ++ (y ++ z)) at p ≡ x ++ (p ++ z)
splice_swap x y z p at e h = splice_zone x y z p 0 at (omega arith) (omega arith) ∙ ap (λ (l : List ℕ). x ++ (l ++ z)) (splice_all y p h)

-- what is written is read
piece_within : (bs : List ℕ) (off : ℕ) (p : List ℕ) (at j n : ℕ) → off ≤ length bs → at ≡ off + j → j + n ≤ length p → piece (splice bs off p) at n ≡ piece p j n
unfolding splice
piece_within bs off p at j n h e l =
    piece_behind (take off bs) (p ++ drop (off + length p) bs) off j at n (length-take-le off bs h) e ∙ piece_first p (drop (off + length p) bs) j n l

-- all of a list
piece_all : (bs : List ℕ) (n : ℕ) → length bs ≡ n → piece bs 0 n ≡ bs
unfolding piece
piece_all bs n e = take_all n bs (omega arith)

-- zeros in a row are zeros and zeros
zeros_split : (z x y : ℕ) → z ≡ x + y → replicate {A = ℕ} z 0 ≡ replicate x 0 ++ replicate y 0
zeros_split z x y e = ap (λ (n : ℕ). replicate {A = ℕ} n 0) e ∙ sym (replicate-append-replicate x y 0)

-- c of n slots of w bytes, from slot i on
slots_splice : (f f' : ℕ → List ℕ) (w n i c : ℕ) (p : List ℕ) → ((k : ℕ) → k < n → length (f k) ≡ w) → length p ≡ w * c → i + c ≤ n
    → ((k : ℕ) → k < i → f' k ≡ f k) → ((k : ℕ) → k < c → f' (i + k) ≡ piece p (w * k) w) → ((k : ℕ) → i + c ≤ k → k < n → f' k ≡ f k)
    → splice (slots_of f n) (w * i) p ≡ slots_of f' n
slots_splice f f' w n i c p long lp h low mid high =
    let L : List ℕ = slots_of f n in
    let lL : length L ≡ w * n = slots_length f w n long in
    let add : w * (i + c) ≡ w * i + w * c = omega arith in
    let fits : w * i + length p ≤ length L = omega (arith, mul-le-mul_left w h) in
    let S : List ℕ = splice L (w * i) p in
    let lS : length S ≡ w * n = length_splice L (w * i) p fits ∙ lL in
    let all : (k : ℕ) → k < n → piece S (0 + w * k) w ≡ f' k =
    λ k q. let o : 0 + w * k ≡ w * k = omega arith in
    rw o
    (either (ltb k i)
    (λ t. let l : k < i = ltb-true k i t in
    piece_below L (w * i) p (w * k) w fits (omega (arith, mul-le-mul_left w l)) ∙ (slots_at f w n long k q ∙ sym (low k l)))
    (λ t. let l : i ≤ k = ltb-false k i t in
    either (ltb k (i + c))
    (λ u. let v : k < i + c = ltb-true k (i + c) u in
    let d : ℕ = k - i in
    let e : k ≡ i + d = omega arith in
    let m : w * k ≡ w * i + w * d = ap (λ (x : ℕ). w * x) e ∙ omega arith in
    let r : d < c = omega arith in
    piece_within L (w * i) p (w * k) (w * d) w (omega arith) m (omega (arith, mul-le-mul_left w r)) ∙ (sym (mid d r) ∙ ap f' (sym e)))
    (λ u. let v : i + c ≤ k = ltb-false k (i + c) u in
    piece_above L (w * i) p (w * k) w fits (omega (arith, mul-le-mul_left w v)) ∙ (slots_at f w n long k q ∙ sym (high k v q))))) in
    sym (piece_all S (w * n) lS) ∙ (sym (slots_piece S 0 w n) ∙ slots_same (λ k. piece S (0 + w * k) w) f' n all)

-- ---- an area

module _ (epoch dimension : ℕ) (old new : List ℕ) (rank : ℕ) (H : ℕ → Bool) (slot : ℕ → List ℕ) (g : ℕ) (ghosts tail : List ℕ) (Z : Zones epoch dimension old new rank slot g ghosts) where
  abbrev T : Tables old new
  T = Z.tables

  abbrev P : ℕ
  P = ranks old

  abbrev n : ℕ
  n = tree_count new rank

  abbrev bound : ℕ
  bound = ghost_bound (faces_in dimension) (tree_count new rank)

  abbrev area : List ℕ
  area = area_with epoch dimension old new rank H slot g ghosts ++ tail

  abbrev header : ℕ → List ℕ
  header = area_header_bytes epoch dimension (trees old) (ranks old) rank (tree_count new rank)

  abbrev words : (ℕ → Bool) → List ℕ
  words h = words_of h (heard_words P)

  abbrev empty : ℕ → List ℕ
  empty g' = replicate (core_size * (bound - g')) 0

  -- the header and the tables, and how long they are
  abbrev front : List ℕ
  front = header g ++ (old ++ new)

  front_long : words_place P ≡ length front
  unfolding words_place new_place
  front_long =
      rw (length-append, header_length epoch dimension (trees old) P rank n g, length-append, size old T.old_bytes T.old_ranks T.old_valid, size new T.new_bytes T.new_ranks T.new_valid, T.same_ranks)
      (omega arith)

  word-long : (h : ℕ → Bool) (w : ℕ) → w < heard_words P → length (le_bytes 8 (word_of h w)) ≡ 8
  word-long h w l = bytes_length 8 (word_of h w)

  words_long : (h : ℕ → Bool) → length (words h) ≡ 8 * heard_words P
  words_long h = rw (words_slots h (heard_words P)) (slots_length (λ w. le_bytes 8 (word_of h w)) 8 (heard_words P) (word-long h))

  -- ---- the words

  behind_words : List ℕ
  behind_words = slots_of slot n ++ (ghosts ++ (empty g ++ tail))

  at_words : (h : ℕ → Bool) → area_with epoch dimension old new rank h slot g ghosts ++ tail ≡ front ++ (words h ++ behind_words)
  unfolding area_with behind_words
  at_words h = simp append_assoc

  -- word w written anew
  pub words_write : (H' : ℕ → Bool) (w v : ℕ) → w < heard_words (ranks old) → word_of H' w ≡ v → ((u : ℕ) → (u ≡ w → ⊥) → word_of H' u ≡ word_of H u)
      → put_u64 (area_with epoch dimension old new rank H slot g ghosts ++ tail) (words_place (ranks old) + 8 * w) v ≡ area_with epoch dimension old new rank H' slot g ghosts ++ tail
  unfolding le_put
  words_write H' w v h e same =
      let B : List ℕ = le_bytes 8 v in
      let W : ℕ → List ℕ = λ u. le_bytes 8 (word_of H u) in
      let W' : ℕ → List ℕ = λ u. le_bytes 8 (word_of H' u) in
      let one : length B ≡ 8 * 1 = bytes_length 8 v in
      let s : splice (words H) (8 * w) B ≡ words H' =
      rw (words_slots H (heard_words P), words_slots H' (heard_words P))
      (slots_splice W W' 8 (heard_words P) w 1 B (word-long H) one (omega arith)
      (λ k l. ap (le_bytes 8) (same k (λ z. omega arith)))
      (λ k l. let z : k ≡ 0 = omega arith in let o : w + 0 ≡ w = omega arith in rw (z, o, e) (sym (piece_all B 8 one)))
      (λ k l q. ap (le_bytes 8) (same k (λ z. omega arith)))) in
      ap (λ (l : List ℕ). splice l (words_place P + 8 * w) B) (at_words H)
      ∙ (splice_zone front (words H) behind_words B (8 * w) (words_place P + 8 * w) (omega (arith, front_long)) (omega (arith, one, words_long H))
      ∙ (ap (λ (l : List ℕ). front ++ (l ++ behind_words)) s ∙ sym (at_words H')))

  -- ---- the tree slots

  at_slots : (f : ℕ → List ℕ) → area_with epoch dimension old new rank H f g ghosts ++ tail ≡ (front ++ words H) ++ (slots_of f n ++ (ghosts ++ (empty g ++ tail)))
  unfolding area_with
  at_slots f = simp append_assoc

  slots-from : slots_place P ≡ length (front ++ words H)
  unfolding slots_place
  slots-from = rw (length-append, words_long H) (omega (arith, front_long))

  -- c slots written anew, from slot i on
  pub slots_write : (slot' : ℕ → List ℕ) (i c : ℕ) (p : List ℕ) → length p ≡ tree_size * c → i + c ≤ tree_count new rank
      → ((k : ℕ) → k < i → slot' k ≡ slot k) → ((k : ℕ) → k < c → slot' (i + k) ≡ piece p (tree_size * k) tree_size) → ((k : ℕ) → i + c ≤ k → k < tree_count new rank → slot' k ≡ slot k)
      → splice (area_with epoch dimension old new rank H slot g ghosts ++ tail) (slots_place (ranks old) + tree_size * i) p ≡ area_with epoch dimension old new rank H slot' g ghosts ++ tail
  slots_write slot' i c p lp h low mid high =
      let long = slots_length slot tree_size n Z.slots_long in
      ap (λ (l : List ℕ). splice l (slots_place P + tree_size * i) p) (at_slots slot)
      ∙ (splice_zone (front ++ words H) (slots_of slot n) (ghosts ++ (empty g ++ tail)) p (tree_size * i) (slots_place P + tree_size * i) (omega (arith, slots-from)) (omega arith)
      ∙ (ap (λ (l : List ℕ). (front ++ words H) ++ (l ++ (ghosts ++ (empty g ++ tail)))) (slots_splice slot slot' tree_size n i c p Z.slots_long lp h low mid high) ∙ sym (at_slots slot')))

  -- ---- the ghosts and their count

  ghosts-from : ghost_slots_place P n ≡ length ((front ++ words H) ++ slots_of slot n)
  unfolding ghost_slots_place
  ghosts-from = rw (length-append, slots_length slot tree_size n Z.slots_long) (omega (arith, slots-from))

  module _ (g' : ℕ) (ghosts' : List ℕ) (long : length ghosts' ≡ core_size * g') (more : g ≤ g') (fit : g' ≤ ghost_bound (faces_in dimension) (tree_count new rank)) where
    -- the slots that are filled
    filled : List ℕ
    filled = replicate (core_size * (g' - g)) 0

    empty-split : empty g ≡ filled ++ empty g'
    unfolding filled
    empty-split = zeros_split (core_size * (bound - g)) (core_size * (g' - g)) (core_size * (bound - g')) (omega arith)

    at_ghosts : area ≡ ((front ++ words H) ++ slots_of slot n) ++ ((ghosts ++ filled) ++ (empty g' ++ tail))
    unfolding area_with
    at_ghosts = rw empty-split (simp append_assoc)

    filled-long : length ghosts' ≡ length (ghosts ++ filled)
    unfolding filled
    filled-long = rw (length-append, Z.ghosts_long, length-replicate {A = ℕ} (core_size * (g' - g)) 0, long) (omega arith)

    -- the numbers before the ghost count, and what stands behind it
    before : List ℕ
    before = le_bytes 4 epoch ++ (le_bytes 4 dimension ++ (le_bytes 4 (trees old) ++ (le_bytes 4 (ranks old) ++ (le_bytes 4 rank ++ le_bytes 4 (tree_count new rank)))))

    behind : List ℕ
    behind = le_bytes 4 0 ++ (old ++ (new ++ (words H ++ (slots_of slot n ++ (ghosts' ++ (empty g' ++ tail))))))

    before-long : 24 ≡ length before
    unfolding before
    before-long = sym (simp (length-append, bytes_length))

    at_count : ((front ++ words H) ++ slots_of slot n) ++ (ghosts' ++ (empty g' ++ tail)) ≡ before ++ (le_bytes 4 g ++ behind)
    unfolding area_header_bytes before behind
    at_count = simp append_assoc

    count-after : before ++ (le_bytes 4 g' ++ behind) ≡ area_with epoch dimension old new rank H slot g' ghosts' ++ tail
    unfolding area_with area_header_bytes before behind
    count-after = simp append_assoc

    -- the ghosts written, then their count
    pub ghosts_write : put_u32 (splice (area_with epoch dimension old new rank H slot g ghosts ++ tail) (ghost_slots_place (ranks old) (tree_count new rank)) ghosts') 24 g'
        ≡ area_with epoch dimension old new rank H slot g' ghosts' ++ tail
    unfolding le_put
    ghosts_write =
        let X : List ℕ = (front ++ words H) ++ slots_of slot n in
        ap (λ (l : List ℕ). splice (splice l (ghost_slots_place P n) ghosts') 24 (le_bytes 4 g')) at_ghosts
        ∙ (ap (λ (l : List ℕ). splice l 24 (le_bytes 4 g')) (splice_swap X (ghosts ++ filled) (empty g' ++ tail) ghosts' (ghost_slots_place P n) ghosts-from filled-long ∙ at_count)
        ∙ (splice_swap before (le_bytes 4 g) behind (le_bytes 4 g') 24 before-long (bytes_length 4 g' ∙ sym (bytes_length 4 g)) ∙ count-after))

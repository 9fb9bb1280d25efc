-- Where an accepted delivery is written, and that there is room for it.
use Prim.Native.Nat.{ℕ, ◌+◌, ◌-◌, ◌*◌, ◌≤◌, ◌<◌}
use native.Mathlib.Nat.{add-zero}
use native.Mathlib.Omega.{arith}
use mathlib.Core.Path.{◌≡◌, sym, ap, ap₂, ◌∙◌}
use mathlib.Core.Bool.{Bool, true, ◌&&◌}
use mathlib.Core.List.{List}
use lib.Dec.{eqb}
use Rattle.encoding.specs.Pieces.{piece, Bytes}
use Rattle.encoding.specs.Refusal.{first_failed}
use Rattle.encoding.proofs.Below.{clash, count_zero, any_at}
use Rattle.offsets.specs.Table.{ranks, trees, first_tree, holds}
use Rattle.records.specs.Record.{core_size, tree_size, number_of}
use Rattle.pattern.specs.Sender.{Tables, sender, sends, sent_count}
use Rattle.pattern.specs.Sets.{sends_to, gets_from}
use Rattle.pattern.proofs.Sets.{gets_sends}
use Rattle.message.specs.Layout.{message_sender, message_trees, message_ghosts, message_tree}
use Rattle.area.specs.Layout.{words_place, slots_place, ghost_slots_place}
use Rattle.area.specs.Area.{area_dimension, area_p, area_rank, area_count, area_ghosts, area_old, area_new, area_first, area_bound}
use Rattle.area.specs.Deliver.{deliver_checks}
use Rattle.area.specs.Means.{HeaderHolds, Tabled, from_first, from_count, from_place}
use Rattle.area.proofs.Headers.{words_place_is, slots_place_is, ghosts_place_is}
use Rattle.area.proofs.Soundness.{sound_holds}
use Rattle.area.proofs.Ranges.{from_within}
use Rattle.area_theorems.proofs.Zones.{bound_small}
use Rattle.area_theorems.proofs.Again.{old_ranks_lem, sound_tables, sound_rank}
use Rattle.area_theorems.proofs.Delivered.{Accepted, layout_parts, accepted_parts, sender_rank, sender_due_lem, trees_count, trees_number, delivered_fit}
use Rattle.deliver.specs.Means.{Deliverable, Placed}

-- a rank that sends another a tree sends at least one
sent_some : (old new : List ℕ) → Tables old new → (p q : ℕ) → p < ranks old → q < ranks old → gets_from old new q p ≡ true → sent_count old new p q ≡ 0 → ⊥
unfolding sent_count sends_to sends
sent_some old new T p q l r e z =
    let t : sends_to old new p q ≡ true = sym (gets_sends old new T p q l r) ∙ e in
    let f : ℕ → Bool = λ k. holds new q k && eqb (sender old k q) p in
    let o = any_at (trees old) f t in
    clash o.2 (count_zero (trees old) f z o.0 o.1)

module _ (a m : List ℕ) (b : Bytes a) (A : Accepted a m) where
  abbrev p : ℕ
  p = message_sender m

  abbrev old : List ℕ
  old = area_old a

  H : HeaderHolds a
  H = sound_holds a A.area_ok b

  rank_below : area_rank a < ranks old
  rank_below = sound_rank a b A.area_ok

  some-sent : from_count a p ≡ 0 → ⊥
  some-sent = sent_some old (area_new a) (sound_tables a b A.area_ok) p (area_rank a) (sender_rank a m b A) rank_below (sender_due_lem a m b A)

  p-below : p < area_p a
  p-below = omega (arith, sender_rank a m b A, old_ranks_lem a b A.area_ok)

  within : (area_first a ≤ from_first a p) × (from_first a p + from_count a p ≤ area_first a + area_count a)
  within = from_within a H p p-below some-sent

  first-number : 0 < message_trees m → number_of (piece m 32 core_size) ≡ from_first a p
  unfolding message_tree
  first-number h = trees_number a m b A 0 h ∙ add-zero (from_first a p)

  bound-few : area_bound a < 4294967296
  unfolding area_bound
  bound-few = bound_small (area_dimension a) (area_count a) H.count_high

  pub accepted_ready : Deliverable a m
  accepted_ready =
      let c : message_trees m ≡ from_count a p = trees_count a m b A in
      let n : 0 < message_trees m = omega (arith, some-sent) in
      record {
        holds = H;
        size = (layout_parts m A.layout_ok).size;
        fit = delivered_fit a m b A;
        few = bound-few;
        sender_below = p-below;
        some = n;
        count_is = c;
        first_is = first-number n;
        low = within.0;
        high = omega (arith, within.1);
      }

-- what an accepted delivery has
pub ready : (a m : List ℕ) → Bytes a → first_failed (deliver_checks a m) ≡ 0 → Deliverable a m
ready a m b e = accepted_ready a m b (accepted_parts a m e)

-- the first tree of the rank
pub first_read : {a old new : List ℕ} → Tabled a old new → {rank first : ℕ} → rank ≡ area_rank a → first ≡ first_tree new rank → first ≡ area_first a
unfolding area_first
first_read t e f = f ∙ rw (t.is_new, e)

-- the slots of the trees that came
pub trees_placed : (a m : List ℕ) → Deliverable a m → (tree : ℕ) → {P base first sent : ℕ} → P ≡ area_p a → base ≡ slots_place P → first ≡ area_first a → sent ≡ number_of (piece m 32 core_size)
    → tree + first ≡ sent → base + tree_size * tree ≡ from_place a (message_sender m)
unfolding from_place
trees_placed a m F tree e1 e2 e3 e4 e5 =
    let l : tree ≡ from_first a (message_sender m) - area_first a = omega (arith, e3, e4, e5, F.first_is) in
    rw (l, e2, e1)

-- all places, and room at them
pub placed : (a m : List ℕ) → Deliverable a m → {P n words sender slots trees ghosts held came : ℕ} → P ≡ area_p a → n ≡ area_count a → words ≡ words_place P → sender ≡ message_sender m → slots ≡ from_place a (message_sender m)
    → trees ≡ message_trees m → ghosts ≡ ghost_slots_place P n → held ≡ area_ghosts a → came ≡ message_ghosts m → Placed a m words sender slots trees ghosts held came
unfolding from_place
placed a m F {P} {n} {words} {sender} {slots} {trees} {ghosts} {held} {came} e1 e2 e3 e4 e5 e6 e7 e8 e9 =
    let H = F.holds in
    let long = H.long in
    let wp = words_place_is (area_p a) in
    let sp = slots_place_is (area_p a) in
    let gp = ghosts_place_is (area_p a) (area_count a) in
    let w : words ≡ words_place (area_p a) = e3 ∙ ap words_place e1 in
    let g : ghosts ≡ ghost_slots_place (area_p a) (area_count a) = e7 ∙ ap₂ ghost_slots_place e1 e2 in
    let few = H.ranks_high in
    let below = F.sender_below in
    let low = F.low in
    let high = F.high in
    let fit = F.fit in
    record {
      is_words = w;
      is_sender = e4;
      is_slots = e5;
      is_trees = e6;
      is_ghosts = g;
      is_held = e8;
      is_came = e9;
      header_room = omega arith;
      words_room = omega arith;
      slots_room = omega arith;
      ghosts_room = omega arith;
      message_room = omega (arith, F.size);
      few = omega (arith, F.few);
    }

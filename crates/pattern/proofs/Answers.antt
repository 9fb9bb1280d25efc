-- Laws that the proofs of the public calls cite.
use Prim.Native.Nat.{ℕ, ◌+◌, ◌-◌, ◌^◌, ◌≤◌, ◌<◌}
use native.Mathlib.Omega.{arith}
use mathlib.Core.Path.{◌≡◌, refl, sym, ap, ◌∙◌}
use mathlib.Core.Bool.{Bool, true, false, cond, ◌&&◌, and-false}
use mathlib.Core.List.{List, [], ◌∷◌, ◌++◌}
use lib.Dec.{ltb, leb, eqb}
use lib.IntN.{ℤ, negsuc}
use lib.ListN.{length, get_or, take}
use mir.Facts.{to_z_pos}
use mir.Syntax.{w32}
use mir.Val.{to_z}
use borrow.Author.Tests.{ltb-true, eqb-true, lt-ltb, le-ltb, le-leb, lt-leb, eq-eqb, ne_eqb}
use Rattle.encoding.specs.Answer.{written}
use Rattle.encoding.specs.Pieces.{Bytes, splice}
use Rattle.encoding.specs.Refusal.{Check, check, first_failed}
use Rattle.encoding.proofs.Below.{and_fst, and_snd, count_le, kept_found, kept_length}
use Rattle.encoding.proofs.Pieces.{splice_take, length_splice}
use Rattle.offsets.specs.Calls.{range_refused, range_answer}
use Rattle.offsets.specs.Table.{ranks, ranks_ok, valid, trees}
use Rattle.offsets.proofs.OnePass.{ranks_known}
use Rattle.pattern.specs.declared.Ranks.{Ranks}
use Rattle.std.specs.declared.option.Option.{Option}
use Rattle.std.specs.Prelude.{Some, None}
use Rattle.pattern.specs.Calls.{table_checks, sender_refusal, sender_of, sent_refusal, trees_sent, set_refusal, set_answer, ranks_answer, send_set_of, receive_set_of}
use Rattle.pattern.specs.Answers.{SmallNumbers, sender_fits, sender_refused, ranks_refused}
use Rattle.pattern.specs.Means.{TreeTo, RankOf, exchanges_tree, rank_set, rank_set_of}
use Rattle.pattern.specs.Sender.{Tables, sender_to, sender_number, sent_first, sent_count}
use Rattle.pattern.specs.Sets.{send_set, receive_set, smallest, largest}

-- ---- numbers of answers

-- a rank that fits
pub rank_fits : (s : Option ℕ) (p : ℕ) → sender_fits s ≡ true → s ≡ Some p → p < 2 ^ 31
unfolding sender_fits
rank_fits s p h e = ltb-true p (2 ^ 31) (sym (ap sender_fits e) ∙ h)

-- the answer for an empty set
pub ranks_none : (set : List ℕ) → length set ≡ 0 → record { refusal = 0; count = 0; smallest = negsuc 0; largest = negsuc 1 } ≡ ranks_answer 0 set
unfolding ranks_answer smallest largest
ranks_none set h = rw h

-- the answer for a set with ranks in it
pub ranks_some : (set : List ℕ) → SmallNumbers set → (length set ≡ 0 → ⊥)
    → record { refusal = 0; count = length set; smallest = to_z w32 (get_or set 0 0); largest = to_z w32 (get_or set (length set - 1) 0) } ≡ ranks_answer 0 set
unfolding ranks_answer smallest largest
ranks_some set f h =
    rw (ne_eqb (length set) 0 h, to_z_pos w32 (f.small 0 (omega arith)), to_z_pos w32 (f.small (length set - 1) (omega arith)))

-- ---- the sets, written and read back

module _ (set : List ℕ) (n : ℕ) (c : n ≡ length set) (out after : List ℕ) (l : n ≤ length out) (e : after ≡ splice out 0 set) where
  -- what was written is the set
  pub set_back : take n after ≡ set
  set_back =
      let k : n ≡ 0 + length set = omega arith in
      rw (e, k) (splice_take out 0 set (omega arith))

  -- as long, and as small, as the set
  pub back_length : n ≡ length (take n after)
  back_length = rw set_back c

  -- the list is as long as before
  pub list_fits : n ≤ length after
  list_fits = omega (arith, ap length e, length_splice out 0 set (omega arith))

  pub back_small : SmallNumbers set → SmallNumbers (take n after)
  back_small f = rw set_back f

-- the ranks of a set are small
pub set_small : (old new : List ℕ) (p : ℕ) (sending : Bool) → ranks_ok old ≡ true → SmallNumbers (rank_set old new p sending)
unfolding rank_set
set_small old new p sending ok =
    let f = exchanges_tree old new p sending in
    let P = (ranks_known old ok).high in
    let k = kept_length (ranks old) f in
    record {
      few = omega (arith, count_le (ranks old) f);
      small = λ i h. omega (arith, (kept_found (ranks old) f i 0 (omega arith)).0);
    }

-- ---- the checks of two tables

one_check : (c : Bool) (n : ℕ) → first_failed (check c n ∷ []) ≡ cond c 0 n
unfolding first_failed
one_check c n = refl

three_hold : (a b c : Bool) → cond {A = ℕ} a (cond b (cond c 0 4) 3) 2 ≡ 0 → (a ≡ true) × (b ≡ true) × (c ≡ true)
three_hold true true true e = (refl, refl, refl)
three_hold true true false e = absurd (omega arith)
three_hold true false c e = absurd (omega arith)
three_hold false b c e = absurd (omega arith)

three_then : (a b c : Bool) (n : ℕ) → cond a (cond b (cond c n 4) 3) 2 ≡ cond (eqb (cond {A = ℕ} a (cond b (cond c 0 4) 3) 2) 0) n (cond a (cond b (cond c 0 4) 3) 2)
three_then true true true n = refl
three_then true true false n = refl
three_then true false c n = refl
three_then false b c n = refl

module _ (old new : List ℕ) (r : ℕ) (e : r ≡ first_failed (table_checks old new)) where
  -- tables that pass agree
  pub tables_agree : Bytes old → Bytes new → r ≡ 0 → Tables old new
  unfolding table_checks first_failed
  tables_agree b b' z =
      let h = three_hold (ranks_ok old && ranks_ok new) (valid old && valid new) (eqb (ranks old) (ranks new) && eqb (trees old) (trees new)) (sym e ∙ z) in
      record {
        old_bytes = b;
        new_bytes = b';
        old_ranks = and_fst (ranks_ok old) (ranks_ok new) h.0;
        new_ranks = and_snd (ranks_ok old) (ranks_ok new) h.0;
        old_valid = and_fst (valid old) (valid new) h.1;
        new_valid = and_snd (valid old) (valid new) h.1;
        same_ranks = sym (eqb-true (ranks old) (ranks new) (and_fst (eqb (ranks old) (ranks new)) (eqb (trees old) (trees new)) h.2));
        same_trees = sym (eqb-true (trees old) (trees new) (and_snd (eqb (ranks old) (ranks new)) (eqb (trees old) (trees new)) h.2));
      }

  -- the checks behind theirs count where they pass
  after-tables : (cs : List Check) → first_failed (table_checks old new ++ cs) ≡ cond (eqb r 0) (first_failed cs) r
  unfolding table_checks first_failed
  after-tables cs = rw e (three_then (ranks_ok old && ranks_ok new) (valid old && valid new) (eqb (ranks old) (ranks new) && eqb (trees old) (trees new)) (first_failed cs))

  tables-fail : (cs : List Check) → (r ≡ 0 → ⊥) → first_failed (table_checks old new ++ cs) ≡ r
  tables-fail cs n = after-tables cs ∙ rw (ne_eqb r 0 n)

  tables-pass : (cs : List Check) → r ≡ 0 → first_failed (table_checks old new ++ cs) ≡ first_failed cs
  tables-pass cs z = after-tables cs ∙ rw (eq-eqb r 0 z)

  module _ (b : Bytes old) (b' : Bytes new) (z : r ≡ 0) where
    -- what inner functions require
    pub old_ranks_lem : ranks_ok old ≡ true
    old_ranks_lem = (tables_agree b b' z).old_ranks

    pub rank_of : (P p : ℕ) → P ≡ ranks old → p < P → RankOf old new p
    rank_of P p k h = record { tables = tables_agree b b' z; rank_below = omega arith }

    pub tree_to_lem : (K P k q : ℕ) → K ≡ trees old → k < K → P ≡ ranks old → q < P → TreeTo old new k q
    tree_to_lem K P k q e' h d l = record { tables = tables_agree b b' z; tree_below = omega arith; receiver_below = omega arith }

  -- ---- the sender of a tree

  module _ (k q : ℕ) where
    sender_is : (n : ℕ) → sender_refusal old new k q ≡ n → sender_of old new k q ≡ cond (eqb n 0) (record { refusal = 0; sender = sender_number (sender_to old new k q) }) (sender_refused n)
    unfolding sender_of
    sender_is n e' = rw e'

    -- the answer at each return of the call
    pub sender_fails : (r ≡ 0 → ⊥) → sender_refused r ≡ sender_of old new k q
    unfolding sender_refusal
    sender_fails n = sym (sender_is r (tables-fail _ n) ∙ rw (ne_eqb r 0 n))

    module _ (z : r ≡ 0) (K : ℕ) (t : K ≡ trees old) where
      sender-checked : sender_refusal old new k q ≡ cond (ltb k K && ltb q (ranks old)) 0 5
      unfolding sender_refusal
      sender-checked = tables-pass _ z ∙ (one_check _ 5 ∙ rw t)

      pub tree_past : K ≤ k → sender_refused 5 ≡ sender_of old new k q
      tree_past h = sym (sender_is 5 (sender-checked ∙ rw (le-ltb k K h)))

      module _ (P : ℕ) (d : P ≡ ranks old) where
        pub receiver_past : P ≤ q → sender_refused 5 ≡ sender_of old new k q
        receiver_past h = sym (sender_is 5 (sender-checked ∙ rw (← d, le-ltb q P h, and-false)))

        pub sender_found : k < K → q < P → (s : Option ℕ) (n : ℤ) → s ≡ sender_to old new k q → n ≡ sender_number s → record { refusal = 0; sender = n } ≡ sender_of old new k q
        sender_found h l s n e₁ e₂ = rw (e₂, e₁) (sym (sender_is 0 (sender-checked ∙ rw (← d, lt-ltb k K h, lt-ltb q P l))))

  -- ---- the trees from p to q

  module _ (p q : ℕ) where
    sent_is : (n : ℕ) → sent_refusal old new p q ≡ n → trees_sent old new p q ≡ range_answer n (sent_first old new p q) (sent_count old new p q)
    unfolding trees_sent
    sent_is n e' = rw e'

    -- the answer at each return of the call
    pub sent_fails : (r ≡ 0 → ⊥) → range_refused r ≡ trees_sent old new p q
    unfolding sent_refusal range_answer
    sent_fails n = sym (sent_is r (tables-fail _ n) ∙ rw (ne_eqb r 0 n))

    module _ (z : r ≡ 0) (P : ℕ) (d : P ≡ ranks old) where
      sent-checked : sent_refusal old new p q ≡ cond (ltb p P && ltb q P) 0 5
      unfolding sent_refusal
      sent-checked = tables-pass _ z ∙ (one_check _ 5 ∙ rw d)

      pub from_past : P ≤ p → range_refused 5 ≡ trees_sent old new p q
      unfolding range_answer
      from_past h = sym (sent_is 5 (sent-checked ∙ rw (le-ltb p P h)))

      pub to_past : P ≤ q → range_refused 5 ≡ trees_sent old new p q
      unfolding range_answer
      to_past h = sym (sent_is 5 (sent-checked ∙ rw (le-ltb q P h, and-false)))

      pub sent_found : p < P → q < P → (first count : ℕ) → first ≡ sent_first old new p q → count ≡ sent_count old new p q → record { refusal = 0; first = first; count = count } ≡ trees_sent old new p q
      unfolding range_answer
      sent_found h l first count e₁ e₂ = rw (e₁, e₂) (sym (sent_is 0 (sent-checked ∙ rw (lt-ltb p P h, lt-ltb q P l))))

  -- ---- the sets

  module _ (p : ℕ) (sending : Bool) (out : List ℕ) where
    set_is : (n : ℕ) → set_refusal old new p (rank_set old new p sending) out ≡ n → rank_set_of old new p sending out ≡ set_answer n (rank_set old new p sending) out
    unfolding rank_set_of
    set_is n e' = rw e'

    -- a refusal leaves the list as it is
    set-refused : (n : ℕ) → (n ≡ 0 → ⊥) → set_refusal old new p (rank_set old new p sending) out ≡ n → (ranks_refused n, out) ≡ rank_set_of old new p sending out
    unfolding set_answer ranks_answer written
    set-refused n h e' = sym (set_is n e' ∙ rw (ne_eqb n 0 h))

    -- the answer at each return of the call
    pub set_fails : (r ≡ 0 → ⊥) → (ranks_refused r, out) ≡ rank_set_of old new p sending out
    unfolding set_refusal
    set_fails n = set-refused r n (tables-fail _ n)

    module _ (z : r ≡ 0) (P : ℕ) (d : P ≡ ranks old) where
      set-checked : set_refusal old new p (rank_set old new p sending) out ≡ cond (ltb p P) (cond (leb (length (rank_set old new p sending)) (length out)) 0 22) 5
      unfolding set_refusal first_failed
      set-checked = tables-pass _ z ∙ rw d

      pub rank_past : P ≤ p → (ranks_refused 5, out) ≡ rank_set_of old new p sending out
      rank_past h = set-refused 5 (λ x. omega arith) (set-checked ∙ rw (le-ltb p P h))

      module _ (n : ℕ) (c : n ≡ length (rank_set old new p sending)) (h : p < P) where
        pub no_room : length out < n → (ranks_refused 22, out) ≡ rank_set_of old new p sending out
        no_room l = set-refused 22 (λ x. omega arith) (set-checked ∙ rw (lt-ltb p P h, ← c, lt-leb n (length out) l))

        pub set_found : n ≤ length out → (a : Ranks) (after : List ℕ) → after ≡ splice out 0 (rank_set old new p sending) → a ≡ ranks_answer 0 (take n after) → (a, after) ≡ rank_set_of old new p sending out
        unfolding set_answer written
        set_found l a after e₁ e₂ =
            let t : take n after ≡ rank_set old new p sending = set_back (rank_set old new p sending) n c out after l e₁ in
            rw (e₂, t, e₁) (sym (set_is 0 (set-checked ∙ rw (lt-ltb p P h, ← c, le-leb n (length out) l))))

-- with the rank sending it is the send set, else the receive set
module _ (old new : List ℕ) (p : ℕ) where
  pub set_sends : rank_set old new p true ≡ send_set old new p
  unfolding rank_set send_set exchanges_tree
  set_sends = refl

  pub set_receives : rank_set old new p false ≡ receive_set old new p
  unfolding rank_set receive_set exchanges_tree
  set_receives = refl

  pub send_is : (out : List ℕ) → rank_set_of old new p true out ≡ send_set_of old new p out
  unfolding rank_set_of send_set_of
  send_is out = rw set_sends

  pub receive_is : (out : List ℕ) → rank_set_of old new p false out ≡ receive_set_of old new p out
  unfolding rank_set_of receive_set_of
  receive_is out = rw set_receives

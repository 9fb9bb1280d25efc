-- What the calls answer.
use Prim.Native.Nat.{ℕ, ◌*◌, ◌≤◌, ◌<◌}
use native.Mathlib.Omega.{arith}
use mathlib.Core.Path.{◌≡◌, refl, sym, ◌∙◌}
use mathlib.Core.Bool.{Bool, true, false, cond, ◌&&◌}
use mathlib.Core.List.{List, [], ◌∷◌, ◌++◌}
use lib.Dec.{leb, ltb, eqb}
use lib.ListN.{length}
use borrow.Author.Tests.{ltb-true, eqb-true, lt-ltb, le-ltb, eq-eqb, ne_eqb, le-leb, lt-leb}
use Rattle.encoding.specs.Below.{count_below}
use Rattle.encoding.specs.Pieces.{splice, Bytes}
use Rattle.encoding.specs.Refusal.{check, first_failed}
use Rattle.encoding.specs.Answer.{length_answer, length_refused, written, write_answer}
use Rattle.encoding.specs.declared.answer.Length.{Length}
use Rattle.encoding.proofs.Below.{either, clash, and_fst, and_snd, count_le}
use Rattle.bits.specs.Bits.{in_set}
use Rattle.offsets.specs.Limits.{max_trees}
use Rattle.offsets.specs.Table.{ranks, ranks_ok, trees, valid}
use Rattle.offsets.proofs.Tables.{trees_high}
use Rattle.pattern.specs.Calls.{table_checks}
use Rattle.pattern.specs.Means.{PairOf}
use Rattle.pattern.specs.Sender.{sent_first, sent_count}
use Rattle.pattern.specs.Sets.{sends_to}
use Rattle.pattern.proofs.Answers.{tables_agree}
use Rattle.pattern.proofs.Sets.{sent_below}
use Rattle.part.specs.Layout.{part_header}
use Rattle.part.specs.Part.{part_k, part_holds, part_core, part_sound}
use Rattle.part.specs.Means.{RankKnown}
use Rattle.part_theorems.proofs.SoundParts.{part_header_lem, part_length}
use Rattle.message.specs.Build.{part_record, part_message}
use Rattle.message.specs.Rule.{ghost_goes}
use Rattle.message.specs.Calls.{build_checks, message_length_of, build_message_of}
use Rattle.message.specs.Layout.{message_size}
use Rattle.message_ghosts.specs.Means.{mark_words, Room, Marks, Sending, SendingRange}
use Rattle.message_build.specs.Means.{Going, MessageRoom, built_range}
use Rattle.message_build.proofs.Whole.{count_is, built_length}

-- ---- the ghosts that go

module _ (part old new : List ℕ) (p q low n : ℕ) (range : SendingRange part old new p q low n) where
  abbrev from : Sending part old new p q
  from = range.sending

  -- they are marked and counted, which gives the message's length
  pub ghosts_go : (marks : List ℕ) {g : ℕ} → Marks part old new p q marks → g ≡ count_below (64 * length marks) (in_set marks) → Going part old new p q n g marks
  ghosts_go marks {g} ghosts e =
      let c : g ≡ count_below (trees old) (ghost_goes (part_core part) old new (part_holds part) (part_record part) p q) = e ∙ count_is part old new p q from marks ghosts in
      let T = from.pair.tables in
      let K = trees_high old T.old_bytes T.old_ranks T.old_valid in
      let sent = sent_below old new T p q from.pair.sender_below from.pair.receiver_below in
      record {
        marked = ghosts;
        counted = e;
        long = λ epoch. rw (range.many, c) (sym (built_length part old new p q from epoch));
        small = omega (arith, range.many, count_le (trees old) (ghost_goes (part_core part) old new (part_holds part) (part_record part) p q));
      }

  -- room for the message
  pub message_room : (marks out : List ℕ) (g epoch : ℕ) → Going part old new p q n g marks → {size : ℕ} → size ≡ message_size n g → size ≤ length out → MessageRoom part old new p q low n g epoch marks out
  message_room marks out g epoch go e h = record { range = range; ghosts = go.marked; counted = go.counted; room = omega (arith, go.long epoch) }

  -- words for the marks
  pub words_known : (part_header ≤ length part) × (part_k part ≤ max_trees)
  words_known =
      let T = from.pair.tables in
      (omega (arith, part_length part old p from.sound), omega (arith, (part_header_lem part old p from.sound).all_trees, trees_high old T.old_bytes T.old_ranks T.old_valid))

  pub marks_room : (marks : List ℕ) {words : ℕ} → length marks ≡ words → part_k part ≤ 64 * words → words ≤ mark_words → Room old marks
  marks_room marks e h l = record { enough = omega (arith, (part_header_lem part old p from.sound).all_trees); few = omega arith }

-- ---- the buffer

module _ (m out : List ℕ) {n : ℕ} (long : n ≡ length m) where
  pub range_short : length out < n → (length_refused 22, out) ≡ built_range m out
  unfolding built_range write_answer length_answer written first_failed
  range_short h = rw (← long, lt-leb n (length out) h)

  pub range_done : {last : List ℕ} → n ≤ length out → last ≡ splice out 0 m → (record { refusal = 0; length = n }, last) ≡ built_range m out
  unfolding built_range write_answer length_answer written first_failed
  range_done h e = rw (← long, le-leb n (length out) h, e)

-- ---- the checks

-- checks behind those of the tables
behind_tables : (a b c : Bool) (x : ℕ) → cond a (cond b (cond c x 4) 3) 2 ≡ cond (eqb (cond a (cond b (cond c 0 4) 3) 2) 0) x (cond a (cond b (cond c 0 4) 3) 2)
behind_tables false b c x = refl
behind_tables true false c x = refl
behind_tables true true false x = refl
behind_tables true true true x = refl

-- one more check behind those of a build
behind_build : (a b c d e f : Bool) (x : ℕ)
    → cond a (cond b (cond c (cond d (cond e (cond f x 9) 8) 5) 4) 3) 2
    ≡ cond (eqb (cond a (cond b (cond c (cond d (cond e (cond f 0 9) 8) 5) 4) 3) 2) 0) x (cond a (cond b (cond c (cond d (cond e (cond f 0 9) 8) 5) 4) 3) 2)
behind_build false b c d e f x = refl
behind_build true false c d e f x = refl
behind_build true true false d e f x = refl
behind_build true true true false e f x = refl
behind_build true true true true false f x = refl
behind_build true true true true true false x = refl
behind_build true true true true true true x = refl

-- where none fails, each holds
all_hold : (r : ℕ) (d e f : Bool) → cond (eqb r 0) (cond d (cond e (cond f 0 9) 8) 5) r ≡ 0 → (r ≡ 0) × ((d ≡ true) × (e ≡ true))
all_hold r true true f h = (either (eqb r 0) (λ z. eqb-true r 0 z) (λ z. rw z at h), (refl, refl))
all_hold r true false f h = absurd (either (eqb r 0) (λ z. omega (arith, rw z at h)) (λ z. clash (eq-eqb r 0 (rw z at h)) z))
all_hold r false e f h = absurd (either (eqb r 0) (λ z. omega (arith, rw z at h)) (λ z. clash (eq-eqb r 0 (rw z at h)) z))

-- what the checks of the tables and the ranks tell
module _ (old new : List ℕ) (p q : ℕ) (b : Bytes old) (b' : Bytes new) {r : ℕ} (tables : r ≡ first_failed (table_checks old new)) (ok : r ≡ 0) {P : ℕ} (is_p : P ≡ ranks old)
    (sender : p < P) (receiver : q < P) where
  pub pair_of : PairOf old new p q
  pair_of = record { tables = tables_agree old new r tables b b' ok; sender_below = rw is_p at sender; receiver_below = rw is_p at receiver }

  pub rank_known : RankKnown old p
  rank_known = let t = tables_agree old new r tables b b' ok in record { counted = t.old_ranks; checked = t.old_valid; below = rw is_p at sender }

module _ (part old new : List ℕ) (p q : ℕ) where
  abbrev ranks_below : Bool
  ranks_below = ltb p (ranks old) && ltb q (ranks old)

  abbrev tables_failed : ℕ
  tables_failed = first_failed (table_checks old new)

  checked : first_failed (build_checks part old new p q) ≡ cond (eqb tables_failed 0) (cond ranks_below (cond (part_sound part old p) (cond (sends_to old new p q) 0 9) 8) 5) tables_failed
  unfolding first_failed build_checks table_checks
  checked = behind_tables (ranks_ok old && ranks_ok new) (valid old && valid new) (eqb (ranks old) (ranks new) && eqb (trees old) (trees new)) (cond ranks_below (cond (part_sound part old p) (cond (sends_to old new p q) 0 9) 8) 5)

  module _ {r : ℕ} (tables : r ≡ first_failed (table_checks old new)) where
    pub fails_tables : (r ≡ 0 → ⊥) → r ≡ first_failed (build_checks part old new p q)
    fails_tables h = rw (checked, ← tables, ne_eqb r 0 h)

    module _ (ok : r ≡ 0) {P : ℕ} (is_p : P ≡ ranks old) where
      pub fails_sender : P ≤ p → 5 ≡ first_failed (build_checks part old new p q)
      fails_sender h = rw (checked, ← tables, ok, ← is_p, le-ltb p P h)

      module _ (sender : p < P) where
        pub fails_receiver : P ≤ q → 5 ≡ first_failed (build_checks part old new p q)
        fails_receiver h = rw (checked, ← tables, ok, ← is_p, lt-ltb p P sender, le-ltb q P h)

        module _ (receiver : q < P) where
          module _ {s : Bool} (is-s : s ≡ part_sound part old p) where
            pub fails_part : s ≡ false → 8 ≡ first_failed (build_checks part old new p q)
            fails_part h = rw (checked, ← tables, ok, ← is_p, lt-ltb p P sender, lt-ltb q P receiver, ← is-s, h)

            module _ (sound : s ≡ true) {t : Bool} (is-t : t ≡ sends_to old new p q) where
              pub fails_none : t ≡ false → 9 ≡ first_failed (build_checks part old new p q)
              fails_none h = rw (checked, ← tables, ok, ← is_p, lt-ltb p P sender, lt-ltb q P receiver, ← is-s, sound, ← is-t, h)

              pub none_fails : t ≡ true → 0 ≡ first_failed (build_checks part old new p q)
              none_fails h = rw (checked, ← tables, ok, ← is_p, lt-ltb p P sender, lt-ltb q P receiver, ← is-s, sound, ← is-t, h)

  -- what holds where no check fails
  pub may_send : {r : ℕ} → r ≡ first_failed (build_checks part old new p q) → Bytes old → Bytes new → r ≡ 0 → Sending part old new p q
  may_send e b b' z =
      let h = all_hold tables_failed ranks_below (part_sound part old p) (sends_to old new p q) (sym checked ∙ sym e ∙ z) in
      record {
        pair = record {
          tables = tables_agree old new tables_failed refl b b' h.0;
          sender_below = ltb-true p (ranks old) (and_fst (ltb p (ranks old)) (ltb q (ranks old)) h.1.0);
          receiver_below = ltb-true q (ranks old) (and_snd (ltb p (ranks old)) (ltb q (ranks old)) h.1.0);
        };
        sound = h.1.1;
      }

  pub may_range : {r low n : ℕ} → r ≡ first_failed (build_checks part old new p q) → Bytes old → Bytes new → r ≡ 0 → low ≡ sent_first old new p q → n ≡ sent_count old new p q → SendingRange part old new p q low n
  may_range e b b' z l m = record { sending = may_send e b b' z; begins = l; many = m }

  module _ {r : ℕ} (fails : r ≡ first_failed (build_checks part old new p q)) where
    pub length_refused_lem : (r ≡ 0 → ⊥) → length_refused r ≡ message_length_of part old new p q
    unfolding message_length_of length_answer
    length_refused_lem h = rw (← fails, ne_eqb r 0 h)

    module _ (epoch : ℕ) (out : List ℕ) where
      with-room : (b : Bool) → first_failed (build_checks part old new p q ++ (check b 22 ∷ [])) ≡ cond (eqb r 0) (cond b 0 22) r
      unfolding first_failed build_checks table_checks
      with-room b =
          rw fails (behind_build (ranks_ok old && ranks_ok new) (valid old && valid new) (eqb (ranks old) (ranks new) && eqb (trees old) (trees new)) ranks_below (part_sound part old p) (sends_to old new p q) (cond b 0 22))

      pub build_refused : (r ≡ 0 → ⊥) → (length_refused r, out) ≡ build_message_of part old new p q epoch out
      unfolding build_message_of write_answer length_answer written
      build_refused h = rw (with-room (leb (length (part_message part old new p q epoch)) (length out)), ne_eqb r 0 h, ne_eqb r 0 h)

      -- what behind the checks is left to the buffer
      pub build_left : r ≡ 0 → {x : Length × List ℕ} → x ≡ built_range (part_message part old new p q epoch) out → x ≡ build_message_of part old new p q epoch out
      unfolding build_message_of built_range write_answer length_answer written first_failed
      build_left ok e = e ∙ sym (rw (with-room (leb (length (part_message part old new p q epoch)) (length out)), ok))

    pub length_read : r ≡ 0 → {n : ℕ} → n ≡ length (part_message part old new p q 0) → record { refusal = 0; length = n } ≡ message_length_of part old new p q
    unfolding message_length_of length_answer
    length_read ok long = rw (← fails, ok, ← long)

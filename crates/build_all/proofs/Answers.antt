-- What the calls answer.
use Prim.Native.Nat.{ℕ, ◌*◌, ◌≤◌, ◌<◌}
use native.Mathlib.Omega.{arith}
use mathlib.Core.Path.{◌≡◌, refl, sym, ap, ◌∙◌}
use mathlib.Core.Bool.{Bool, true, false, cond, ◌&&◌}
use mathlib.Core.List.{List, [], ◌∷◌, ◌++◌}
use lib.Dec.{leb, ltb, eqb}
use lib.ListN.{length}
use borrow.Author.Tests.{ltb-true, eqb-true, lt-ltb, le-ltb, eq-eqb, ne_eqb}
use Rattle.encoding.specs.Answer.{length_answer, written, write_answer}
use Rattle.encoding.specs.declared.answer.Length.{Length}
use Rattle.encoding.specs.Pieces.{Bytes}
use Rattle.encoding.specs.Refusal.{check, first_failed}
use Rattle.encoding.proofs.Below.{either, clash, kept_same}
use Rattle.offsets.specs.Limits.{max_trees}
use Rattle.offsets.specs.Table.{ranks, ranks_ok, trees, valid}
use Rattle.offsets.proofs.Tables.{trees_high}
use Rattle.pattern.specs.Calls.{table_checks}
use Rattle.pattern.specs.Means.{RankOf, exchanges_tree, rank_set}
use Rattle.pattern.specs.Sets.{sends_to, send_set}
use Rattle.pattern.proofs.Answers.{tables_agree}
use Rattle.part.specs.Layout.{part_header}
use Rattle.part.specs.Part.{part_k, part_sound}
use Rattle.part.specs.Means.{RankKnown}
use Rattle.part_theorems.proofs.SoundParts.{part_header_lem, part_length}
use Rattle.message_ghosts.specs.Means.{mark_words}
use Rattle.message_build.specs.Means.{built_range}
use Rattle.build_all.specs.Messages.{all_messages}
use Rattle.build_all.specs.Calls.{build_all_checks, messages_answer, build_all_length_of, build_all_refusal, build_all_of}
use Rattle.build_all.specs.Means.{messages_below, BuildFrom}
use Rattle.build_all.proofs.Rows.{messages_are}

-- ---- the checks

-- checks behind those of the tables
behind_tables : (a b c : Bool) (x : ℕ) → cond a (cond b (cond c x 4) 3) 2 ≡ cond (eqb (cond a (cond b (cond c 0 4) 3) 2) 0) x (cond a (cond b (cond c 0 4) 3) 2)
behind_tables false b c x = refl
behind_tables true false c x = refl
behind_tables true true false x = refl
behind_tables true true true x = refl

-- one more check behind those of a build
behind_build : (a b c d e : Bool) (x : ℕ)
    → cond a (cond b (cond c (cond d (cond e x 8) 5) 4) 3) 2
    ≡ cond (eqb (cond a (cond b (cond c (cond d (cond e 0 8) 5) 4) 3) 2) 0) x (cond a (cond b (cond c (cond d (cond e 0 8) 5) 4) 3) 2)
behind_build false b c d e x = refl
behind_build true false c d e x = refl
behind_build true true false d e x = refl
behind_build true true true false e x = refl
behind_build true true true true false x = refl
behind_build true true true true true x = refl

-- where none fails, each holds
all_hold : (r : ℕ) (d e : Bool) → cond (eqb r 0) (cond d (cond e 0 8) 5) r ≡ 0 → (r ≡ 0) × ((d ≡ true) × (e ≡ true))
all_hold r true true h = (either (eqb r 0) (λ z. eqb-true r 0 z) (λ z. rw z at h), (refl, refl))
all_hold r true false h = absurd (either (eqb r 0) (λ z. omega (arith, rw z at h)) (λ z. clash (eq-eqb r 0 (rw z at h)) z))
all_hold r false e h = absurd (either (eqb r 0) (λ z. omega (arith, rw z at h)) (λ z. clash (eq-eqb r 0 (rw z at h)) z))

module _ (part old new : List ℕ) (p : ℕ) where
  abbrev tables_failed : ℕ
  tables_failed = first_failed (table_checks old new)

  checked : first_failed (build_all_checks part old new p) ≡ cond (eqb tables_failed 0) (cond (ltb p (ranks old)) (cond (part_sound part old p) 0 8) 5) tables_failed
  unfolding first_failed build_all_checks table_checks
  checked = behind_tables (ranks_ok old && ranks_ok new) (valid old && valid new) (eqb (ranks old) (ranks new) && eqb (trees old) (trees new)) (cond (ltb p (ranks old)) (cond (part_sound part old p) 0 8) 5)

  module _ {r : ℕ} (tables : r ≡ first_failed (table_checks old new)) where
    pub fails_tables : (r ≡ 0 → ⊥) → r ≡ first_failed (build_all_checks part old new p)
    fails_tables h = rw (checked, ← tables, ne_eqb r 0 h)

    module _ (ok : r ≡ 0) {P : ℕ} (is_p : P ≡ ranks old) where
      pub fails_sender : P ≤ p → 5 ≡ first_failed (build_all_checks part old new p)
      fails_sender h = rw (checked, ← tables, ok, ← is_p, le-ltb p P h)

      module _ (sender : p < P) where
        pub rank_known : Bytes old → Bytes new → RankKnown old p
        rank_known b b' = let t = tables_agree old new r tables b b' ok in record { counted = t.old_ranks; checked = t.old_valid; below = rw is_p at sender }

        module _ {s : Bool} (is-s : s ≡ part_sound part old p) where
          pub fails_part : s ≡ false → 8 ≡ first_failed (build_all_checks part old new p)
          fails_part h = rw (checked, ← tables, ok, ← is_p, lt-ltb p P sender, ← is-s, h)

          pub none_fails : s ≡ true → 0 ≡ first_failed (build_all_checks part old new p)
          none_fails h = rw (checked, ← tables, ok, ← is_p, lt-ltb p P sender, ← is-s, h)

  module _ {r : ℕ} (fails : r ≡ first_failed (build_all_checks part old new p)) where
    module _ (b : Bytes old) (b' : Bytes new) (z : r ≡ 0) where
      held : (tables_failed ≡ 0) × ((ltb p (ranks old) ≡ true) × (part_sound part old p ≡ true))
      held = all_hold tables_failed (ltb p (ranks old)) (part_sound part old p) (sym checked ∙ sym fails ∙ z)

      pub may_build : RankOf old new p
      may_build = record { tables = tables_agree old new tables_failed refl b b' held.0; rank_below = ltb-true p (ranks old) held.1.0 }

      -- words for the marks
      K-high : trees old ≤ max_trees
      K-high = let T = may_build.tables in trees_high old T.old_bytes T.old_ranks T.old_valid

      pub words_known : (part_header ≤ length part) × (part_k part ≤ max_trees)
      words_known = (omega (arith, part_length part old p held.1.1), omega (arith, (part_header_lem part old p held.1.1).all_trees, K-high))

      pub build_from : Bytes part → (marks : List ℕ) {words : ℕ} → length marks ≡ words → part_k part ≤ 64 * words → words ≤ mark_words → BuildFrom part old new p marks
      build_from bytes marks e h l =
          record {
            rank = may_build;
            sound = held.1.1;
            bytes = bytes;
            room = record { enough = omega (arith, (part_header_lem part old p held.1.1).all_trees); few = omega arith };
          }

    pub length_refused_lem : (r ≡ 0 → ⊥) → record { refusal = r; count = 0; length = 0 } ≡ build_all_length_of part old new p
    unfolding build_all_length_of messages_answer
    length_refused_lem h = rw (← fails, ne_eqb r 0 h)

    -- as many as the send set has
    set_is : rank_set old new p true ≡ send_set old new p
    unfolding rank_set exchanges_tree send_set
    set_is = kept_same (ranks old) (λ q. exchanges_tree old new p true q) (sends_to old new p) (λ i h. refl)

    module _ {n count : ℕ} (is_n : (epoch : ℕ) → n ≡ length (messages_below part old new p epoch (ranks old))) (is_count : count ≡ length (rank_set old new p true)) where
      all-long : (epoch : ℕ) → n ≡ length (all_messages part old new p epoch)
      all-long epoch = is_n epoch ∙ ap length (messages_are part old new p epoch)

      all-count : count ≡ length (send_set old new p)
      all-count = is_count ∙ ap length set_is

      pub length_read : r ≡ 0 → record { refusal = 0; count = count; length = n } ≡ build_all_length_of part old new p
      unfolding build_all_length_of messages_answer
      length_read z = rw (← fails, z, ← all-long 0, ← all-count)

    module _ (epoch : ℕ) (out : List ℕ) where
      with-room : (b : Bool) → first_failed (build_all_checks part old new p ++ (check b 22 ∷ [])) ≡ cond (eqb r 0) (cond b 0 22) r
      unfolding first_failed build_all_checks table_checks
      with-room b =
          rw fails (behind_build (ranks_ok old && ranks_ok new) (valid old && valid new) (eqb (ranks old) (ranks new) && eqb (trees old) (trees new)) (ltb p (ranks old)) (part_sound part old p) (cond b 0 22))

      refusal_is : build_all_refusal part old new p epoch out ≡ cond (eqb r 0) (cond (leb (length (all_messages part old new p epoch)) (length out)) 0 22) r
      unfolding build_all_refusal
      refusal_is = with-room (leb (length (all_messages part old new p epoch)) (length out))

      pub build_refused : (r ≡ 0 → ⊥) → (record { refusal = r; count = 0; length = 0 }, out) ≡ build_all_of part old new p epoch out
      unfolding build_all_of messages_answer written
      build_refused h = rw (refusal_is, ne_eqb r 0 h, ne_eqb r 0 h)

      -- what behind the checks is left to the buffer
      module _ (ok : r ≡ 0) {b : Length} {last : List ℕ} (built : (b, last) ≡ built_range (messages_below part old new p epoch (ranks old)) out) where
        abbrev fits : Bool
        fits = leb (length (all_messages part old new p epoch)) (length out)

        abbrev left : ℕ
        left = cond fits 0 22

        built-all : (b, last) ≡ built_range (all_messages part old new p epoch) out
        built-all = built ∙ ap (λ (m : List ℕ). built_range m out) (messages_are part old new p epoch)

        b-is : b ≡ length_answer left (length (all_messages part old new p epoch))
        unfolding built_range write_answer first_failed
        b-is = ap (λ (x : Length × List ℕ). x.0) built-all

        last_is : last ≡ written left (all_messages part old new p epoch) out
        unfolding built_range write_answer first_failed
        last_is = ap (λ (x : Length × List ℕ). x.1) built-all

        refusal-left : build_all_refusal part old new p epoch out ≡ left
        refusal-left = refusal_is ∙ rw ok

        answer_refusal : (n m : ℕ) → (length_answer n m).refusal ≡ n
        unfolding length_answer
        answer_refusal n m = either (eqb n 0) (λ t. rw t (sym (eqb-true n 0 t))) (λ t. rw t)

        b-refusal : b.refusal ≡ left
        b-refusal = ap (λ (x : Length). x.refusal) b-is ∙ answer_refusal left (length (all_messages part old new p epoch))

        pub all_short : (b.refusal ≡ 0 → ⊥) → (record { refusal = b.refusal; count = 0; length = 0 }, last) ≡ build_all_of part old new p epoch out
        unfolding build_all_of messages_answer
        all_short h = rw (refusal-left, b-refusal, ne_eqb left 0 (λ z. h (b-refusal ∙ z)), last_is)

        pub all_built : b.refusal ≡ 0 → {count : ℕ} → count ≡ length (rank_set old new p true) → (record { refusal = 0; count = count; length = b.length }, last) ≡ build_all_of part old new p epoch out
        unfolding build_all_of messages_answer length_answer
        all_built z c =
            let e : left ≡ 0 = sym b-refusal ∙ z in
            let l : b.length ≡ length (all_messages part old new p epoch) = ap (λ (x : Length). x.length) b-is ∙ rw e in
            rw (refusal-left, e, l, c, set_is, last_is, e)

-- A deliver_all does what its deliveries do one after the other, so demand 3 is so of lists with either.
use Prim.Native.Nat.{ℕ, suc, ◌+◌, ◌*◌, ◌≤◌, ◌<◌}
use native.Mathlib.Nat.{zero-add}
use native.Mathlib.Omega.{arith}
use mathlib.Core.Path.{◌≡◌, refl, sym, ap, ap₂, ◌∙◌}
use mathlib.Core.Bool.{Bool, true, false, cond, ◌&&◌}
use mathlib.Core.List.{List, [], ◌∷◌, ◌++◌}
use lib.Dec.{leb}
use lib.ListN.{length, take, drop, length-append}
use lib.Seq.{take_at, drop_at}
use Rattle.encoding.specs.Answer.{written, count_answer}
use Rattle.encoding.specs.Numbers.{le_value, le_at}
use Rattle.encoding.specs.Pieces.{splice}
use Rattle.encoding.specs.Refusal.{first_failed}
use borrow.Author.Tests.{leb-true}
use Rattle.encoding.proofs.Below.{either, and_fst}
use Rattle.encoding.proofs.Pieces.{splice_take}
use Rattle.message.specs.Layout.{message_trees, message_ghosts, in_layout}
use Rattle.message.proofs.Layouts.{size_length, layout_size}
use Rattle.area.specs.Area.{area_sound}
use Rattle.area.specs.Deliver.{deliver_of}
use Rattle.area_theorems.proofs.Joined.{piece_first}
use Rattle.deliver_all.specs.Messages.{front_length, messages_in, area_after_each, answers_of_each}
use Rattle.deliver_all.specs.Calls.{max_messages, deliver_all_refusal, deliver_all_count, deliver_all_area, deliver_all_of}
use Rattle.deliver_all.proofs.Parting.{front_whole, messages_none, messages_step}
use Rattle.repartition.specs.Run.{Run, Setting}
use Rattle.repartition.specs.Lists.{Call, deliver, close, Answer, delivery, AllIn, AllBuilt, message_of, opened, area_after, answer_of, area_after_all, answers_of, hears_all, nobody}
use Rattle.repartition.specs.Demand.{size}
use Rattle.repartition.specs.Runs.{ManyCall, one, all, end_to_end, PartedBack, deliveries_told, deliveries, named_by, made_by, named, made, messages_of, area_after_many, answers_of_many, area_after_manys, answers_of_manys, AsSingle, Demand3Runs}
use Rattle.repartition.proofs.Canonical.{canonical}
use Rattle.repartition.proofs.Receive.{InReceive, nobody_receive}
use Rattle.repartition.proofs.Sequences.{after_all}
use Rattle.repartition.proofs.Building.{message_of_lem}
use Rattle.repartition.proofs.Heard.{canonical_sound}
use Rattle.repartition.proofs.Delivering.{built_laid}
use Rattle.repartition.proofs.Demand.{steps, receive_all, state_after, demand_3}

-- ---- messages end to end

module _ (m rest : List ℕ) (laid : in_layout m ≡ true) where
  long : length m ≡ 32 + (64 * message_trees m + 40 * message_ghosts m)
  long = size_length m (layout_size m laid)

  all-long : length (m ++ rest) ≡ length m + length rest
  all-long = length-append m rest

  same_trees_lem : message_trees m ≡ message_trees (m ++ rest)
  unfolding message_trees le_at
  same_trees_lem = sym (ap le_value (piece_first m rest 24 4 (omega (arith, long))))

  same_ghosts : message_ghosts m ≡ message_ghosts (m ++ rest)
  unfolding message_ghosts le_at
  same_ghosts = sym (ap le_value (piece_first m rest 28 4 (omega (arith, long))))

  -- the message in front is as long as it is
  front-laid : front_length (m ++ rest) ≡ length m
  front-laid = sym (front_whole (m ++ rest) (omega (arith, long, all-long)) same_trees_lem same_ghosts long (omega (arith, all-long)))

pub parted_back : PartedBack
unfolding end_to_end AllIn
parted_back [] h = messages_none [] refl
parted_back (m ∷ ms) h =
    let l : 0 < length (m ++ end_to_end ms) = omega (arith, long m (end_to_end ms) h.0, all-long m (end_to_end ms) h.0) in
    messages_step (m ++ end_to_end ms) l
    ∙ ap (λ (k : ℕ). take k (m ++ end_to_end ms) ∷ messages_in (drop k (m ++ end_to_end ms))) (front-laid m (end_to_end ms) h.0)
    ∙ ap₂ (λ (x : List ℕ) (y : List ℕ). x ∷ messages_in y) (take_at m (end_to_end ms) (length m) refl) (drop_at m (end_to_end ms) (length m) refl)
    ∙ ap (λ (r : List (List ℕ)). m ∷ r) (parted_back ms h.1)

-- ---- deliver_all on a sound area

answers_count : (a : List ℕ) (ms : List (List ℕ)) → length (answers_of_each a ms) ≡ length ms
unfolding answers_of_each
answers_count a [] = refl
answers_count a (m ∷ ms) = ap suc (answers_count (deliver_of a m).1 ms)

module _ (a bs answers : List ℕ) (ms : List (List ℕ)) (sound : area_sound a ≡ true) (parted : messages_in bs ≡ ms) where
  abbrev fits : Bool
  fits = leb (length ms) (length answers) && leb (length ms) max_messages

  refusal_is : deliver_all_refusal a bs answers ≡ cond fits 0 22
  unfolding deliver_all_refusal first_failed
  refusal_is = rw (sound, parted)

  module _ (t : fits ≡ true) where
    pub all_area : (deliver_all_of a bs answers).1.0 ≡ area_after_each a ms
    unfolding deliver_all_of deliver_all_area
    all_area = rw (refusal_is, t, parted)

    pub all_told : take (deliver_all_of a bs answers).0.count (deliver_all_of a bs answers).1.1 ≡ answers_of_each a ms
    unfolding deliver_all_of deliver_all_count count_answer written
    all_told =
        rw (refusal_is, t, parted)
        (ap (λ (n : ℕ). take n (splice answers 0 (answers_of_each a ms))) (sym (answers_count a ms) ∙ sym (zero-add (length (answers_of_each a ms))))
        ∙ splice_take answers 0 (answers_of_each a ms) (omega (arith, answers_count a ms, leb-true (length ms) (length answers) (and_fst (leb (length ms) (length answers)) (leb (length ms) max_messages) t))))

  module _ (t : fits ≡ false) where
    pub none_area : (deliver_all_of a bs answers).1.0 ≡ a
    unfolding deliver_all_of deliver_all_area
    none_area = rw (refusal_is, t)

    pub none_told : take (deliver_all_of a bs answers).0.count (deliver_all_of a bs answers).1.1 ≡ []
    unfolding deliver_all_of deliver_all_count count_answer written
    none_told = rw (refusal_is, t)

-- ---- lists of single calls

module _ (run : Run) where
  -- one list after another
  area-append : (a : List ℕ) (cs ds : List Call) → area_after_all run a (cs ++ ds) ≡ area_after_all run (area_after_all run a cs) ds
  unfolding area_after_all
  area-append a [] ds = refl
  area-append a (c ∷ cs) ds = area-append (area_after run a c) cs ds

  answers-append : (a : List ℕ) (cs ds : List Call) → answers_of run a (cs ++ ds) ≡ answers_of run a cs ++ answers_of run (area_after_all run a cs) ds
  unfolding area_after_all answers_of
  answers-append a [] ds = refl
  answers-append a (c ∷ cs) ds = ap (λ (l : List Answer). answer_of run a c ∷ l) (answers-append (area_after run a c) cs ds)

  built-first : (cs ds : List Call) → AllBuilt run (cs ++ ds) → AllBuilt run cs
  unfolding AllBuilt
  built-first [] ds b = tt
  built-first (deliver p q ∷ cs) ds b = (b.0, built-first cs ds b.1)
  built-first (close out ∷ cs) ds b = built-first cs ds b

  built-rest : (cs ds : List Call) → AllBuilt run (cs ++ ds) → AllBuilt run ds
  unfolding AllBuilt
  built-rest [] ds b = b
  built-rest (deliver p q ∷ cs) ds b = built-rest cs ds b.1
  built-rest (close out ∷ cs) ds b = built-rest cs ds b

  built-both : (cs ds : List Call) → AllBuilt run cs → AllBuilt run ds → AllBuilt run (cs ++ ds)
  unfolding AllBuilt
  built-both [] ds b d = d
  built-both (deliver p q ∷ cs) ds b d = (b.0, built-both cs ds b.1 d)
  built-both (close out ∷ cs) ds b d = built-both cs ds b d

  none-built : AllBuilt run []
  unfolding AllBuilt
  none-built = tt

  made-built : (c : ManyCall) → AllBuilt run (named_by c) → AllBuilt run (made_by c)
  unfolding named_by made_by
  made-built (one c) b = b
  made-built (all es answers) b = either (leb (length es) (length answers) && leb (length es) max_messages) (λ t. rw t b) (λ t. rw t none-built)

  all-made-built : (cs : List ManyCall) → AllBuilt run (named cs) → AllBuilt run (made cs)
  unfolding named made
  all-made-built [] b = b
  all-made-built (c ∷ cs) b = built-both (made_by c) (made cs) (made-built c (built-first (named_by c) (named cs) b)) (all-made-built cs (built-rest (named_by c) (named cs) b))

  -- ---- the deliveries of a deliver_all

  count_of : (es : List (ℕ × ℕ)) → length (messages_of run es) ≡ length es
  unfolding messages_of
  count_of [] = refl
  count_of (e ∷ es) = ap suc (count_of es)

  each-area : (es : List (ℕ × ℕ)) (a : List ℕ) → area_after_each a (messages_of run es) ≡ area_after_all run a (deliveries es)
  unfolding messages_of deliveries area_after_each area_after_all area_after
  each-area [] a = refl
  each-area (e ∷ es) a = each-area es (deliver_of a (message_of run e.0 e.1)).1

  each-answer : (es : List (ℕ × ℕ)) (a : List ℕ) → deliveries_told (answers_of_each a (messages_of run es)) ≡ answers_of run a (deliveries es)
  unfolding messages_of deliveries answers_of_each deliveries_told answers_of area_after answer_of
  each-answer [] a = refl
  each-answer (e ∷ es) a = ap (λ (l : List Answer). delivery (deliver_of a (message_of run e.0 e.1)).0 ∷ l) (each-answer es (deliver_of a (message_of run e.0 e.1)).1)

  module _ (S : Setting run) where
    laid : (es : List (ℕ × ℕ)) → AllBuilt run (deliveries es) → AllIn (λ m. in_layout m ≡ true) (messages_of run es)
    unfolding messages_of deliveries AllBuilt AllIn
    laid [] b = tt
    laid (e ∷ es) b = (rw (message_of_lem run S e.0 e.1 b.0.sender_below b.0.receiver_below) (built_laid run S e.0 e.1 b.0), laid es b.1)

    -- on a sound area
    module _ (a : List ℕ) (sound : area_sound a ≡ true) where
      one-area : (c : ManyCall) → AllBuilt run (named_by c) → area_after_many run a c ≡ area_after_all run a (made_by c)
      unfolding area_after_many named_by made_by area_after_all
      one-area (one c) b = refl
      one-area (all es answers) b =
          let p : messages_in (end_to_end (messages_of run es)) ≡ messages_of run es = parted_back (messages_of run es) (laid es b) in
          let n = count_of es in
          either (leb (length es) (length answers) && leb (length es) max_messages)
          (λ t. rw t (all_area a (end_to_end (messages_of run es)) answers (messages_of run es) sound p (rw n t) ∙ each-area es a))
          (λ t. rw t (none_area a (end_to_end (messages_of run es)) answers (messages_of run es) sound p (rw n t)))

      one_answer : (c : ManyCall) → AllBuilt run (named_by c) → answers_of_many run a c ≡ answers_of run a (made_by c)
      unfolding answers_of_many named_by made_by answers_of deliveries_told
      one_answer (one c) b = refl
      one_answer (all es answers) b =
          let p : messages_in (end_to_end (messages_of run es)) ≡ messages_of run es = parted_back (messages_of run es) (laid es b) in
          let n = count_of es in
          either (leb (length es) (length answers) && leb (length es) max_messages)
          (λ t. rw t (ap deliveries_told (all_told a (end_to_end (messages_of run es)) answers (messages_of run es) sound p (rw n t)) ∙ each-answer es a))
          (λ t. rw t (ap deliveries_told (none_told a (end_to_end (messages_of run es)) answers (messages_of run es) sound p (rw n t))))

    -- ---- lists

    module _ (tail : List ℕ) where
      abbrev area_of : (ℕ → Bool) → List ℕ
      area_of H = canonical run H ++ tail

      many-area : (cs : List ManyCall) → AllBuilt run (named cs) → (H : ℕ → Bool) → InReceive run H → area_after_manys run (area_of H) cs ≡ area_after_all run (area_of H) (made cs)
      unfolding named made area_after_manys area_after_all
      many-area [] b H r = refl
      many-area (c ∷ cs) b H r =
          let bc : AllBuilt run (named_by c) = built-first (named_by c) (named cs) b in
          let bm : AllBuilt run (made_by c) = made-built c bc in
          let e : area_after_all run (area_of H) (made_by c) ≡ area_of (hears_all run H (made_by c)) = after_all run S (steps run S) (made_by c) bm H r tail in
          ap (λ (a : List ℕ). area_after_manys run a cs) (one-area (area_of H) (canonical_sound run S H tail r) c bc ∙ e)
          ∙ many-area cs (built-rest (named_by c) (named cs) b) (hears_all run H (made_by c)) (receive_all run S (made_by c) bm H r)
          ∙ ap (λ (a : List ℕ). area_after_all run a (made cs)) (sym e)
          ∙ sym (area-append (area_of H) (made_by c) (made cs))

      many-answers : (cs : List ManyCall) → AllBuilt run (named cs) → (H : ℕ → Bool) → InReceive run H → answers_of_manys run (area_of H) cs ≡ answers_of run (area_of H) (made cs)
      unfolding named made answers_of_manys answers_of
      many-answers [] b H r = refl
      many-answers (c ∷ cs) b H r =
          let bc : AllBuilt run (named_by c) = built-first (named_by c) (named cs) b in
          let bm : AllBuilt run (made_by c) = made-built c bc in
          let sound : area_sound (area_of H) ≡ true = canonical_sound run S H tail r in
          let e : area_after_all run (area_of H) (made_by c) ≡ area_of (hears_all run H (made_by c)) = after_all run S (steps run S) (made_by c) bm H r tail in
          ap₂ (λ (x y : List Answer). x ++ y) (one_answer (area_of H) sound c bc)
          (ap (λ (a : List ℕ). answers_of_manys run a cs) (one-area (area_of H) sound c bc ∙ e)
          ∙ many-answers cs (built-rest (named_by c) (named cs) b) (hears_all run H (made_by c)) (receive_all run S (made_by c) bm H r)
          ∙ ap (λ (a : List ℕ). answers_of run a (made cs)) (sym e))
          ∙ sym (answers-append (area_of H) (made_by c) (made cs))

    start : (b : List ℕ) → size run ≤ length b → (opened run b).1 ≡ canonical run nobody ++ drop (size run) b
    unfolding area_after_all hears_all
    start b h = state_after run S b h [] none-built

    as-single : (b : List ℕ) → size run ≤ length b → (cs : List ManyCall) → AllBuilt run (named cs) → AsSingle run b cs
    as-single b h cs built =
        let o : (opened run b).1 ≡ canonical run nobody ++ drop (size run) b = start b h in
        record {
          area = ap (λ (a : List ℕ). area_after_manys run a cs) o ∙ many-area (drop (size run) b) cs built nobody (nobody_receive run) ∙ ap (λ (a : List ℕ). area_after_all run a (made cs)) (sym o);
          answers = ap (λ (a : List ℕ). answers_of_manys run a cs) o ∙ many-answers (drop (size run) b) cs built nobody (nobody_receive run) ∙ ap (λ (a : List ℕ). answers_of run a (made cs)) (sym o);
        }

-- the theorem
pub demand_3_runs : Demand3Runs
demand_3_runs run S b c long-b long-c cs ds built-c built-d =
    (demand_3 run S b c long-b long-c (made cs) (made ds) (all-made-built run cs built-c) (all-made-built run ds built-d), (as-single run S b long-b cs built-c, as-single run S c long-c ds built-d))

-- What progress_of and part_of_area_length answer after a list.
use Prim.Native.Nat.{ℕ}
use mathlib.Core.Path.{◌≡◌, ap, ◌∙◌}
use mathlib.Core.Bool.{Bool, cond}
use mathlib.Core.List.{List, ◌++◌}
use lib.ListN.{length, drop}
use Rattle.encoding.specs.Answer.{length_answer}
use Rattle.encoding.specs.Below.{count_below}
use Rattle.encoding.specs.Refusal.{first_failed}
use Rattle.encoding.proofs.Below.{either, count_same}
use Rattle.offsets.specs.Table.{ranks}
use Rattle.pattern.specs.Sets.{receive_set}
use Rattle.area.specs.Area.{heard}
use Rattle.area_open.specs.Calls.{progress_of}
use Rattle.area.specs.Close.{close_checks, close_length_of}
use Rattle.repartition.specs.Run.{Run, Setting}
use Rattle.repartition.specs.Lists.{nobody, all_due, new_part}
use Rattle.repartition.specs.Demand.{size, heard_by}
use Rattle.repartition.specs.AfterList.{ProgressAfter, PartLengthAfter}
use Rattle.repartition.proofs.Canonical.{canonical}
use Rattle.repartition.proofs.Receive.{InReceive, nobody_receive}
use Rattle.repartition.proofs.Heard.{rank_bit, canonical_reads, canonical_sound}
use Rattle.repartition.proofs.Closing.{all_heard_lem, join_sound_lem, join_is_cut}
use Rattle.repartition.proofs.Demand.{receive_all, state_after}

module _ (run : Run) (S : Setting run) (H : ℕ → Bool) (r : InReceive run H) (tail : List ℕ) where
  -- on the area of a heard set
  progress_step : progress_of (canonical run H ++ tail)
      ≡ record { refusal = 0; heard = count_below (ranks run.old) H; due = length (receive_set run.old run.new run.rank) }
  unfolding progress_of
  progress_step =
      let R = canonical_reads run S H tail in
      let e : count_below (ranks run.old) (heard (canonical run H ++ tail)) ≡ count_below (ranks run.old) H =
      count_same (ranks run.old) (heard (canonical run H ++ tail)) H (λ s h. R.at_heard s (rank_bit run S H s h)) in
      rw (canonical_sound run S H tail r, R.at_p, R.at_old, R.at_new, R.at_rank, e)

  length-step : close_length_of (canonical run H ++ tail) ≡ length_answer (cond (all_due run H) 0 20) (length (new_part run))
  unfolding close_length_of close_checks first_failed length_answer
  length-step =
      either (all_due run H)
      (λ t. rw (canonical_sound run S H tail r, all_heard_lem run S H tail, t, join_sound_lem run S H tail t, join_is_cut run S H tail t))
      (λ t. rw (canonical_sound run S H tail r, all_heard_lem run S H tail, t))

pub progress_after : ProgressAfter
progress_after run S b long cs built =
    ap progress_of (state_after run S b long cs built)
    ∙ progress_step run S (heard_by run cs) (receive_all run S cs built nobody (nobody_receive run)) (drop (size run) b)

pub part_length_after : PartLengthAfter
part_length_after run S b long cs built =
    ap close_length_of (state_after run S b long cs built)
    ∙ length-step run S (heard_by run cs) (receive_all run S cs built nobody (nobody_receive run)) (drop (size run) b)

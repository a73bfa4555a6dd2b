-- The graph of items of which no event has happened.
use Rattle.std.proofs.Common.{◌≡◌, ℕ, false, List, length, map, sym, ap, ◌∙◌, arith}
use Rattle.std.specs.Prelude.{slice_index}
use Rattle.std.proofs.lemmas.List.{length-map}
use Rattle.base.specs.Machine.{is_closed}
use Rattle.taskgraph.specs.declared.Stage.{Stage}
use Rattle.taskgraph.specs.declared.Stage.TheVariants as stage
use Rattle.taskgraph.specs.declared.Task.{Task}
use Rattle.taskgraph.specs.Board.{task_facts, untouched, stage_at, condition_of}
use Rattle.taskgraph.specs.Waiting.{AreCounts, AreEnds, AreStarts, AreUntouched, IsCounted, IsGraph, board_of, is_begun, plan_for}
use Rattle.taskgraph.proofs.Counts.{held_kept}

nothing : (ts : List Task) (ss : List Stage) (i : ℕ) (v : Stage) → AreUntouched (length ts) ss →
    stage_at (board_of ts ss 0) i ≡ v → stage.Untouched ≡ v
nothing ts ss i v h e = sym (h.1 i) ∙ e

counted : (ts : List Task) (ss : List Stage) (starts counts : List ℕ) → AreUntouched (length ts) ss → AreCounts ts starts counts →
    IsCounted (record { tasks = map task_facts ts; stages = ss; place = 0 }) starts counts
counted ts ss starts counts h c =
    record {
      stages = h.0 ∙ sym (length-map ts task_facts);
      same = c.0 ∙ sym (length-map ts task_facts);
      missing = λ j lt. c.1 j (omega (arith, lt, length-map ts task_facts))
          ∙ held_kept (untouched (map task_facts ts)) ss 0 (slice_index starts j) j j
          (λ k _. ap (λ x. is_closed (condition_of x)) (sym (h.1 k)));
      generated = λ i e. absurd (let bad = nothing ts ss i stage.Generated h e in cc);
      closed = λ i e. absurd (let bad = nothing ts ss i stage.Closed h e in cc);
      opened = λ i e. absurd (let bad = nothing ts ss i stage.Open h e in cc);
    }

pub fresh : (ts : List Task) (ss : List Stage) (starts ends counts : List ℕ) → AreUntouched (length ts) ss →
    AreStarts (plan_for ts) starts → AreEnds (plan_for ts) starts ends → AreCounts ts starts counts →
    IsGraph (record { tasks = map task_facts ts; stages = ss; place = 0 }) starts ends counts 0
fresh ts ss starts ends counts h s e c =
    record {
      starts = s;
      ends = e;
      counted = counted ts ss starts counts h c;
      ordered = record {
        inside = omega arith;
        begun = λ i j b p. absurd (let none : is_begun (stage_at (board_of ts ss 0) j) ≡ false = ap is_begun (h.1 j) in cc);
        barred = λ w lt b. absurd (omega (arith, lt));
      };
      first = record {
        inside = omega arith;
        below = λ i lt d. absurd (omega (arith, lt));
        left = λ lt. absurd (omega (arith, lt));
      };
    }

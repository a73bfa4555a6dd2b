-- What is answered of an accepted program is what it does without its directives.
use Rattle.std.proofs.Common.{ℕ, List}
use Rattle.base.specs.declared.tree.Program.{Program}
use Rattle.base.specs.declared.item.Answer.{Answer}
use Rattle.base.specs.Accepted.{IsAccepted}
use Rattle.base.specs.Items.{plan}
use Rattle.c_read.specs.Spells.{Spells}
use Rattle.erased_meaning.specs.Laws.{ErasedTextRuns}
use Rattle.erasure.specs.Erased.{erased_text}
use Rattle.pipeline.specs.Source.{IsPlainAnswer}
use Rattle.pipeline.proofs.Runs.{Shows, plain_answer}
use Rattle.driver.specs.declared.running.Next.TheVariants.{Choices, Workers}
use Rattle.driver.specs.declared.running.Way.{Way}
use Rattle.driver.specs.declared.running.Way.TheVariants.{Checked, Fine}
use Rattle.driver.specs.Printed.{answers_of}

shows : (way : Way) (capacity : ℕ) (input : List ℕ) (p : Program) (a : Answer) → answers_of way capacity input p a → IsAccepted (plan p) → Shows p input a
shows (Checked (Choices choices)) capacity input p a h accepted =
    let here = h.answer.0 in record { plain = here.plain; is_erased = here.is_erased; output = here.output; finals = here.finals }
shows (Checked (Workers workers)) capacity input p a h accepted =
    let here = h.answer.0 in record { plain = here.plain; is_erased = here.is_erased; output = here.output; finals = here.finals }
shows (Fine choices turns) capacity input p a h accepted =
    let here = h.accepted accepted in record { plain = here.plain; is_erased = here.is_erased; output = here.output; finals = here.finals }

-- the answer of a way is that of each program that the text without directive lines spells
pub without_directives : ErasedTextRuns → (way : Way) (capacity : ℕ) (input bytes : List ℕ) (p : Program) (a : Answer)
    → Spells bytes p → answers_of way capacity input p a
    → IsAccepted (plan p) → (q : Program) → Spells (erased_text bytes) q → IsPlainAnswer p q input a
without_directives law way capacity input bytes p a spelled h accepted q erased =
    plain_answer p q input a (shows way capacity input p a h accepted) (law bytes p q spelled erased)

-- Every run of the fine-grained machine of an accepted program is right.
use Rattle.fine_machine.specs.Headline.{FineHeadline}
use Rattle.headline.proofs.LawfulItems.{is_start}
use Rattle.fine_headline.proofs.AllLaws.{laws}
use Rattle.fine_headline.proofs.FromLaws.{headline_from}
use Rattle.fine_headline.proofs.FineChain.{fine_chain}

pub headline : FineHeadline
headline =
    headline_from laws (λ p accepted input fill order numbers filled. fine_chain p accepted
    (is_start p accepted input fill numbers filled).lawful input fill order numbers filled)

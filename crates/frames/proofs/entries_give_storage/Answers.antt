use Rattle.frames.proofs.Storage.{entries_give_storage}
use Rattle.frames.proofs.entries_give_storage.Goals as goal

pub returns : goal.returns
returns c = entries_give_storage

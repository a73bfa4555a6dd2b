use Rattle.examples_tests.proofs.Prints.{no_order_shows}
use Rattle.examples_tests.proofs.no_order_shows.Goals as goal

pub returns : goal.returns
returns c = no_order_shows

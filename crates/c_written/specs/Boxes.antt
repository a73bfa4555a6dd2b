-- Boxed scalars, from what has been read.
use Rattle.std.specs.Prelude.{ℕ, ◌++◌, Bool, true, false, if◌then◌else◌, List, [], ◌∷◌, map}
use Rattle.std.specs.Borrow.{Bor}
use Rattle.c_grammar.specs.Blocks.{Items}
use Rattle.c_grammar.specs.Boxes.{Found, Listing, before_main}
use Rattle.c_grammar.specs.Constants.{Names}
use Rattle.c_written.specs.declared.box_lists.Listing.{Listing as Given}
use Rattle.c_written.specs.declared.boxes.Found.{Found as Read}
use Rattle.c_terminals.specs.Names.{seen_names}
use Rattle.c_written.specs.Spots.{seen_spot}

abbrev pub seen_listing : Given → Listing
seen_listing s = record { spot = seen_spot s.spot; lists = s.lists }

abbrev pub texts : List (Bor (List ℕ)) → Names
texts xs = map (λ x. x.now) xs

abbrev pub seen_found : Read → Found
seen_found f = record { locals = seen_names f.locals; others = seen_names f.others }

-- the rest, where the line stands before it already or not yet
abbrev pub announced_rest : Bool → Names → Items → Items
announced_rest put names is = if put then is else before_main names is

use Rattle.std.proofs.Common.{◌≡◌, map, reverse, take}
use Rattle.c_expressions.specs.Means.{meaning_of}
use Rattle.c_expressions.specs.Scopes.{seen_name}
use Rattle.c_expressions.proofs.scope.Frame.meaning.Given as goal

abbrev pub invariant-names : goal.invariant-names
invariant-names l = l.found ≡ meaning_of (map seen_name (reverse (take l.declared-index l.self.names.items))) l.name

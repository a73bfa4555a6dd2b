-- What is known of a line, and which rule a token breaks.
use Rattle.std.specs.Prelude.{ℕ, nat_le, if◌then◌else◌, List, [], ◌∷◌, Option, Some, None}
use Rattle.std.specs.Borrow.{Bor}
use Rattle.base.specs.declared.fault.ReadCode.{ReadCode as Code}
use Rattle.base.specs.declared.fault.ReadCode.TheVariants.{UnknownByte, BadNumber, BadOperand, TooMany, ClauseCount, ArrayTwice, BadDevice}
use Rattle.c_grammar.specs.Lexeme.{Lexeme}
use Rattle.c_grammar.specs.LineGrammar as grammar
use Rattle.c_grammar.specs.LineRules.{LineContext, max_depends, max_terms, has_single, is_name_among, is_no_device, is_no_amount, is_no_chunk, is_strange, is_bad_number, is_long}
use Rattle.directives.specs.declared.known.Act.{Act}
use Rattle.directives.specs.declared.known.Act.TheVariants as act
use Rattle.directives.specs.declared.known.Single.{Single}
use Rattle.directives.specs.declared.known.Single.TheVariants as single
use Rattle.directives.specs.declared.known.Known.{Known}
use Rattle.directives.specs.declared.tree.Amount.{Amount}
use Rattle.directives.specs.Kinds.{seen_amount, seen_modifier}

abbrev pub seen_single : Single → grammar.Single
seen_single single.NoWaits = grammar.NoWaits
seen_single single.OnDevice = grammar.OnDevice
seen_single single.OnSchedule = grammar.OnSchedule
seen_single (single.OnAmount a) = grammar.OnAmount (seen_amount a)
seen_single (single.Modified m) = grammar.Modified (seen_modifier m)

abbrev pub seen_act : Act → grammar.LineAct
seen_act act.Plain = grammar.Plain
seen_act act.Demands = grammar.Demands
seen_act act.Meets = grammar.Meets
seen_act (act.Once what) = grammar.Once (seen_single what)
seen_act act.Ends = grammar.Ends
seen_act act.Maps = grammar.Maps
seen_act act.Depends = grammar.Depends
seen_act act.Numbers = grammar.Numbers
seen_act (act.Amounts a) = grammar.Amounts (seen_amount a)
seen_act act.Chunks = grammar.Chunks
seen_act act.Opens = grammar.Opens
seen_act act.Begins = grammar.Begins
seen_act act.BeginsNamed = grammar.BeginsNamed
seen_act act.Times = grammar.Times

-- the names, the last one first, before others
abbrev pub names_onto : List (Bor (List ℕ)) → List (List ℕ) → List (List ℕ)
names_onto [] ys = ys
names_onto (x ∷ xs) ys = names_onto xs (x.now ∷ ys)

-- the same of amounts
abbrev pub amounts_onto : List Amount → List grammar.Amount → List grammar.Amount
amounts_onto [] ys = ys
amounts_onto (x ∷ xs) ys = amounts_onto xs (seen_amount x ∷ ys)

abbrev pub known_of : Known → LineContext
known_of k = record {
  missing = k.missing;
  waits = k.waits;
  device = k.device;
  schedule = k.schedule;
  amounts = amounts_onto k.amounts.items [];
  always = k.always;
  present = k.present;
  arrays = names_onto k.arrays.items [];
  depends = k.depends;
  terms = k.terms;
}

-- the code that a token has wherever it stands
abbrev pub own_code : Lexeme → Option Code
own_code t =
    if is_strange t then Some UnknownByte
    else (if is_bad_number t then Some BadNumber
    else (if is_long t then Some TooMany
    else None))

-- the code that a token has for what it does
abbrev pub act_code : LineContext → Lexeme → grammar.LineAct → Option Code
act_code c t (grammar.Once what) = if has_single what c then Some ClauseCount else None
act_code c t grammar.Ends = if c.missing then Some ClauseCount else None
act_code c t grammar.Maps = if is_name_among c.arrays t then Some ArrayTwice else None
act_code c t grammar.Depends = if nat_le max_depends c.depends then Some TooMany else None
act_code c t grammar.Begins = if nat_le max_terms c.terms then Some TooMany else None
act_code c t grammar.BeginsNamed = if nat_le max_terms c.terms then Some TooMany else None
act_code c t grammar.Numbers = if is_no_device t then Some BadDevice else None
act_code c t (grammar.Amounts a) = if is_no_amount a t then Some BadOperand else None
act_code c t grammar.Chunks = if is_no_chunk t then Some BadOperand else None
act_code c t _ = None

abbrev pub first_some : Option Code → Option Code → Option Code
first_some None o = o
first_some (Some code) o = Some code

unfoldable pub broken_by : LineContext → Lexeme → grammar.LineAct → Option Code
broken_by c t a = first_some (own_code t) (act_code c t a)

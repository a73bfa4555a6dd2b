-- The machine at a device.
use Rattle.std.proofs.Common.{◌≡◌, ◌≤◌, ℕ, List, ◌∷◌, Option, Some, None, refl, ap, ◌∙◌, arith}
use Rattle.base.specs.declared.fault.ReadCode.TheVariants.{BadNumber, BadDevice}
use Rattle.c_grammar.specs.Lexeme.{Lexeme, Reserved, Signed, Worded, Numbered, Strange, Ended}
use Rattle.c_grammar.specs.LineGrammar.{Numbers, Times, of}
use Rattle.c_grammar.specs.LineRules.{LineContext}
use Rattle.c_grammar.specs.LineMachine.{LineStack, DeviceNumber, line_advance, line_place}
use Rattle.directives.specs.declared.known.Act.TheVariants as act
use Rattle.directives.specs.declared.line.Line.{Line}
use Rattle.directives.specs.Known.{known_of, broken_by}
use Rattle.directives.specs.Cursor.{first_item}
use Rattle.directives.specs.Reading.{rest, took, fault_at, misfit_at}
use Rattle.directives.proofs.Bounding.{bad_breaks}
use Rattle.directives.proofs.Moves.{goes, stops, took_broken}

number_goes : (s : LineStack) (n : Option ℕ) →
    line_advance (DeviceNumber ∷ s) (Numbered n) ≡ Some (of BadDevice Numbers, s)
unfolding line_advance
number_goes s n = refl

pub at_number : (l : Line) (s : LineStack) (n : Option ℕ) → (first_item l).terminal ≡ Numbered n →
    rest l (DeviceNumber ∷ s) ≡ took l (of BadDevice Numbers) s
at_number l s n e = goes l (DeviceNumber ∷ s) s (of BadDevice Numbers)
    (ap (line_advance (DeviceNumber ∷ s)) e ∙ number_goes s n)

name_goes : (s : LineStack) (x : List ℕ) → line_advance (DeviceNumber ∷ s) (Worded x) ≡ Some (of BadDevice Times, s)
unfolding line_advance
name_goes s x = refl

pub at_name : (l : Line) (s : LineStack) (x : List ℕ) → (first_item l).terminal ≡ Worded x →
    rest l (DeviceNumber ∷ s) ≡ took l (of BadDevice Times) s
at_name l s x e = goes l (DeviceNumber ∷ s) s (of BadDevice Times) (ap (line_advance (DeviceNumber ∷ s)) e ∙ name_goes s x)

pub bad_number : (l : Line) (s : LineStack) → (first_item l).terminal ≡ Numbered None →
    rest l (DeviceNumber ∷ s) ≡ Some (fault_at (first_item l) BadNumber)
bad_number l s e = at_number l s None e ∙ took_broken l act.Numbers BadNumber (Some BadDevice) s
    (ap (λ (t : Lexeme). broken_by (known_of l.known) t Numbers) e ∙ bad_breaks (known_of l.known) Numbers)

-- a token that is no number, nor a name
abbrev pub NoDevice : Lexeme → Type 0
NoDevice (Numbered n) = ⊥
NoDevice (Worded x) = ⊥
NoDevice (Reserved x) = Unit {0}
NoDevice (Signed x) = Unit {0}
NoDevice Strange = Unit {0}
NoDevice Ended = Unit {0}

number_none : (s : LineStack) (t : Lexeme) → NoDevice t → line_advance (DeviceNumber ∷ s) t ≡ None
unfolding line_advance
number_none s (Numbered n) h = absurd h
number_none s (Worded x) h = absurd h
number_none s (Reserved x) h = refl
number_none s (Signed x) h = refl
number_none s Strange h = refl
number_none s Ended h = refl

pub stop_number : (l : Line) (s : LineStack) → NoDevice (first_item l).terminal →
    rest l (DeviceNumber ∷ s) ≡ Some (misfit_at BadDevice (first_item l))
unfolding line_place
stop_number l s h = stops l (DeviceNumber ∷ s) BadDevice (number_none s (first_item l).terminal h) refl

-- a number that breaks no rule is that of a device
pub is_device : (c : LineContext) (t : Lexeme) (n : ℕ) → t ≡ Numbered (Some n) → broken_by c t Numbers ≡ None → n ≤ 3
unfolding broken_by
is_device c t n e h = grind arith

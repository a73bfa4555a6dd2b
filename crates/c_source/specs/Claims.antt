-- What holds of sources.
use Rattle.std.specs.Prelude.{◌≡◌, ℕ, List, Some, None}
use Rattle.base.specs.declared.fault.TextFault.{TextFault}
use Rattle.c_grammar.specs.Texts.{terminals, kinds}
use Rattle.c_grammar.specs.Grammar.{Text, slots, IsText}
use Rattle.c_grammar.specs.Rules.{source_grammar}
use Rattle.c_source.specs.Source.{items_of, IsFirstFault, Spells, answer}

-- the fault that is answered is the source's first fault
abbrev pub FaultIsFirst : Type 0
FaultIsFirst = (bytes : List ℕ) (f : TextFault) → answer bytes ≡ Some f → IsFirstFault bytes f

-- where none is answered, the source spells each tree of the grammar whose tokens are its tokens
abbrev pub TextIsSpelled : Type 0
TextIsSpelled =
    (bytes : List ℕ) (t : Text) → answer bytes ≡ None
    → terminals source_grammar (items_of bytes) ≡ kinds source_grammar (slots t) → IsText t → Spells bytes t

-- and there is such a tree
abbrev pub TextExists : Type 0
TextExists = (bytes : List ℕ) → answer bytes ≡ None → (t : Text) × Spells bytes t

-- where a fault is answered it spells none
abbrev pub FaultyTextIsNotSpelled : Type 0
FaultyTextIsNotSpelled = (bytes : List ℕ) (f : TextFault) (t : Text) → answer bytes ≡ Some f → Spells bytes t → ⊥

-- a source spells at most one text
abbrev pub OneText : Type 0
OneText = (bytes : List ℕ) (t u : Text) → Spells bytes t → Spells bytes u → t ≡ u

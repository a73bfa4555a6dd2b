-- Where temporaries are put in place, no name changes.
use Rattle.std.proofs.Common.{Bool, true, false, ℕ, zero, suc, [], ◌∷◌, map, Option, Some, None}
use Rattle.c_grammar.specs.Terminal.{Terminal}
use Rattle.c_grammar.specs.Texts.{Item}
use Rattle.c_grammar.specs.Blocks.{Items, at, bare, is_directive}
use Rattle.c_grammar.specs.AsciiNames.{IsAsciiTerminal}
use Rattle.c_temporaries.proofs.AsciiTokens.{AreItemsText, bare_text, both_text, chosen_text}
use Rattle.c_temporaries.specs.Temporaries.{Onward, State, Temporary, Terminals, begin, behind, declared_at, declared_in, further_on, in_place, placed, placed_by, placed_on, put, put_on, spent, typed, value_at, written_at}
use Rattle.c_temporaries.proofs.KnownValues.{AllHave, IfSomeHave, ItemsHave, KnownsHave, Property}
use Rattle.c_temporaries.proofs.KnownStates.{TemporaryHas, declared_has, in_has, put_has, went_on_has}

-- a name is ASCII
abbrev ascii : Property
ascii = record { Has = IsAsciiTerminal; sign = λ s. tt; number = λ n. tt }

items_text : (is : Items) → AreItemsText is → ItemsHave ascii is
items_text [] h = tt
items_text (i ∷ is) h = (h.0, items_text is h.1)

abbrev GoText : Onward → Type 0
GoText go = (s : State) (k : ℕ) → KnownsHave ascii s.knowns → AreItemsText (go s k)

placed_text : (i : Item Terminal) (ts : Terminals) → AllHave ascii ts → AreItemsText (map (at i) ts)
placed_text i [] h = tt
placed_text i (t ∷ ts) h = (h.0, placed_text i ts h.1)

written_text : (i : Item Terminal) (o : Option Terminals) → IsAsciiTerminal i.terminal → IfSomeHave ascii o →
    AreItemsText (written_at i o)
written_text i None h g = (h, tt)
written_text i (Some ts) h g = placed_text i ts g

module _ (i : Item Terminal) (is : Items) (go : Onward) (h : IsAsciiTerminal i.terminal) (hs : ItemsHave ascii is)
    (r : GoText go) where
  put_text : (s : State) (o : Option Terminals) → KnownsHave ascii s.knowns → IfSomeHave ascii o →
      AreItemsText (put s i is o go)
  put_text s o g q =
      both_text (written_at i o) _ (written_text i o h q)
      (r (behind i is (spent o s)) 0 (went_on_has ascii i is o s hs g))

  on_text : (s : State) (o : Option Temporary) → KnownsHave ascii s.knowns → TemporaryHas ascii o →
      AreItemsText (put_on s i is o go)
  on_text s None g q = put_text s (value_at s i.terminal) g (put_has ascii s i.terminal g)
  on_text s (Some t) g q = r _ _ (q, g)

  further_text : (s : State) (o : Option Temporary) → KnownsHave ascii s.knowns → TemporaryHas ascii o →
      AreItemsText (further_on s i is o go)
  further_text s None g q = (tt, put_text (typed s) (value_at s i.terminal) g (put_has ascii s i.terminal g))
  further_text s (Some t) g q = r _ _ (q, g)

  by_text : (b : Bool) (s : State) → KnownsHave ascii s.knowns → AreItemsText (placed_by b s i is go)
  by_text true s g = further_text s (declared_in s i is) g (in_has ascii s i is g h hs)
  by_text false s g = on_text s (declared_at s i is) g (declared_has ascii s i is g hs)

  placed_on_text : (s : State) (k : ℕ) → KnownsHave ascii s.knowns → AreItemsText (placed_on s k i is go)
  placed_on_text s zero g = by_text s.declares s g
  placed_on_text s (suc k) g = r s k g

all_placed_text : (is : Items) (s : State) (k : ℕ) → AreItemsText is → KnownsHave ascii s.knowns →
    AreItemsText (placed s k is)
all_placed_text [] s k h g = tt
all_placed_text (i ∷ is) s k h g =
    chosen_text (is_directive i.terminal) _ _ (h.0, all_placed_text is s k h.1 g)
    (placed_on_text i (bare is) (λ s k. placed s k is) h.0 (items_text (bare is) (bare_text is h.1))
    (λ s k g. all_placed_text is s k h.1 g) s k g)

pub place_text : (is : Items) → AreItemsText is → AreItemsText (in_place is)
place_text is h = all_placed_text is begin 0 h tt

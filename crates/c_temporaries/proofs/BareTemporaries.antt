-- Temporaries are put in place without a look at directive lines.
use Rattle.std.proofs.Common.{◌≡◌, ◌∙◌, ℕ, zero, suc, Bool, true, false, [], ◌∷◌, map, Option, Some, None, refl, ap}
use Rattle.c_grammar.specs.Lexeme.{Int}
use Rattle.c_grammar.specs.Terminal.{Terminal, Fixed}
use Rattle.c_grammar.specs.Texts.{Item}
use Rattle.c_grammar.specs.Blocks.{Items, at, bare, is_directive}
use Rattle.c_grammar.proofs.BareTokens.{ArePlain, IsBare, IsPlain, one, plain_bare, same_bare, some}
use Rattle.c_temporaries.specs.Temporaries.{Onward, State, Temporary, Terminals, begin, behind, declared_at, declared_in, further_on, in_place, placed, placed_by, placed_on, put, put_on, spent, typed, value_at, written_at}
use Rattle.c_temporaries.proofs.KnownValues.{AllHave, IfSomeHave, ItemsHave, KnownsHave, Property}
use Rattle.c_temporaries.proofs.KnownStates.{TemporaryHas, declared_has, in_has, put_has, went_on_has}

-- no directive line
abbrev plain : Property
plain = record { Has = λ t. is_directive t ≡ false; sign = λ s. refl; number = λ n. refl }

items_plain : (is : Items) → ArePlain is → ItemsHave plain is
items_plain [] h = tt
items_plain (i ∷ is) h = (h.0, items_plain is h.1)

abbrev GoBare : Onward → Onward → Type 0
GoBare go' go = (s : State) (k : ℕ) → KnownsHave plain s.knowns → IsBare (go' s k) (go s k)

placed_plain : (i : Item Terminal) (ts : Terminals) → AllHave plain ts → ArePlain (map (at i) ts)
placed_plain i [] h = tt
placed_plain i (t ∷ ts) h = (h.0, placed_plain i ts h.1)

written_plain : (i : Item Terminal) (o : Option Terminals) → IsPlain i → IfSomeHave plain o →
    ArePlain (written_at i o)
written_plain i None h g = (h, tt)
written_plain i (Some ts) h g = placed_plain i ts g

module _ (i : Item Terminal) (is : Items) (go go' : Onward) (h : IsPlain i) (hs : ItemsHave plain is)
    (r : GoBare go' go) where
  put_bare : (s : State) (o : Option Terminals) → KnownsHave plain s.knowns → IfSomeHave plain o →
      IsBare (put s i is o go') (put s i is o go)
  put_bare s o g q =
      some (written_at i o) _ _ (written_plain i o h q)
      (r (behind i is (spent o s)) 0 (went_on_has plain i is o s hs g))

  on_bare : (s : State) (o : Option Temporary) → KnownsHave plain s.knowns → TemporaryHas plain o →
      IsBare (put_on s i is o go') (put_on s i is o go)
  on_bare s None g q = put_bare s (value_at s i.terminal) g (put_has plain s i.terminal g)
  on_bare s (Some t) g q = r _ _ (q, g)

  further_bare : (s : State) (o : Option Temporary) → KnownsHave plain s.knowns → TemporaryHas plain o →
      IsBare (further_on s i is o go') (further_on s i is o go)
  further_bare s None g q =
      one (at i (Fixed Int)) _ _ refl (put_bare (typed s) (value_at s i.terminal) g (put_has plain s i.terminal g))
  further_bare s (Some t) g q = r _ _ (q, g)

  by_bare : (b : Bool) (s : State) → KnownsHave plain s.knowns → IsBare (placed_by b s i is go') (placed_by b s i is go)
  by_bare true s g = further_bare s (declared_in s i is) g (in_has plain s i is g h hs)
  by_bare false s g = on_bare s (declared_at s i is) g (declared_has plain s i is g hs)

  placed_on_bare : (s : State) (k : ℕ) → KnownsHave plain s.knowns →
      IsBare (placed_on s k i is go') (placed_on s k i is go)
  placed_on_bare s zero g = by_bare s.declares s g
  placed_on_bare s (suc k) g = r s k g

placed_bare : (is : Items) (s : State) (k : ℕ) → KnownsHave plain s.knowns →
    IsBare (placed s k (bare is)) (placed s k is)
placed_bare [] s k g = refl
placed_bare (i ∷ is) s k g = step (placed_bare is) (is_directive i.terminal) refl
  where
    step : GoBare (λ s k. placed s k (bare is)) (λ s k. placed s k is) → (t : Bool) →
        is_directive i.terminal ≡ t → IsBare (placed s k (bare (i ∷ is))) (placed s k (i ∷ is))
    step ih true e = rw e (rw e (ih s k g))
    step ih false e =
        rw e (rw e (ap (λ (js : Items). placed_on s k i js (λ s k. placed s k (bare is))) (same_bare is)
        ∙ placed_on_bare i (bare is) (λ s k. placed s k is) (λ s k. placed s k (bare is)) e
        (items_plain (bare is) (plain_bare is)) ih s k g))

pub place_bare : (is : Items) → IsBare (in_place (bare is)) (in_place is)
place_bare is = placed_bare is begin 0 tt

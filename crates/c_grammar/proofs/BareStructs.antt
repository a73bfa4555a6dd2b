-- Structs are written out without a look at directive lines.
use Rattle.std.proofs.Common.{◌≡◌, ◌∙◌, ℕ, zero, suc, Bool, true, false, cond, [], ◌∷◌, ◌++◌, Option, Some, None, refl, ap}
use Rattle.std.specs.Prelude.{◌&&◌, is_some, not}
use Rattle.c_tokens.specs.declared.kind.Sign.TheVariants as sign
use Rattle.c_grammar.specs.Terminal.{Terminal, Unknown}
use Rattle.c_grammar.specs.Texts.{Item}
use Rattle.c_grammar.specs.Blocks.{Items, at, bare, is_directive}
use Rattle.c_grammar.specs.Constants.{is_mark}
use Rattle.c_grammar.specs.Structs.{Array, Before, Declared, Definition, Found, Nothing, OfLength, OfMany, OfOne, OfRow, OfType, One, Onward, Pointer, Put, State, agreed, arrow_put, begin, behind, count, declared, declared_put, definition_at, definition_put, dot_put, innermost, in_rows, rows_from, rows_on, found, index_at, is_zero, lengths, member_put, name_put, nothing_found, number_of, put_at, put_behind, put_on, row_length}
use Rattle.c_grammar.proofs.BareTokens.{ArePlain, IsBare, IsPlain, both_plain, either, either_plain, one, same_bare, some}

-- ---- no directive line is put in

abbrev IsPutPlain : Option Put → Type 0
IsPutPlain None = Unit {0}
IsPutPlain (Some p) = ArePlain p.items

chosen_put : (b : Bool) (o p : Option Put) → IsPutPlain o → IsPutPlain p → IsPutPlain (cond b o p)
chosen_put true o p h k = h
chosen_put false o p h k = k

index_plain : (i : Item Terminal) (n : ℕ) → ArePlain (index_at i n)
index_plain i n = (refl, (refl, (refl, tt)))

member_plain : (i : Item Terminal) (row : Items) (n : ℕ) (o : Option ℕ) → ArePlain row → IsPutPlain (member_put i row n o)
member_plain i row n None h = tt
member_plain i row n (Some m) h = both_plain row (index_at i m) h (index_plain i m)

dot_plain : (b : Before) (i : Item Terminal) (is : Items) → IsPutPlain (dot_put b i is)
dot_plain Nothing i is = tt
dot_plain (OfOne ms) i [] = tt
dot_plain (OfOne ms) i (x ∷ is) = member_plain i (index_at i 0) 1 (number_of ms x.terminal) (index_plain i 0)
dot_plain (OfMany ms) i is = tt
dot_plain (OfRow ms) i [] = tt
dot_plain (OfRow ms) i (x ∷ is) = member_plain i [] 1 (number_of ms x.terminal) tt
dot_plain (OfLength ms) i is = tt
dot_plain (OfType t ms) i is = tt

arrow_plain : (b : Before) (i : Item Terminal) (is : Items) → IsPutPlain (arrow_put b i is)
arrow_plain Nothing i is = tt
arrow_plain (OfOne ms) i is = tt
arrow_plain (OfMany ms) i [] = tt
arrow_plain (OfMany ms) i (g ∷ []) = tt
arrow_plain (OfMany ms) i (g ∷ x ∷ is) =
    chosen_put (is_mark sign.Greater g) (member_put i (index_at i 0) 2 (number_of ms x.terminal)) None
    (member_plain i (index_at i 0) 2 (number_of ms x.terminal) (index_plain i 0)) tt
arrow_plain (OfRow ms) i is = tt
arrow_plain (OfLength ms) i is = tt
arrow_plain (OfType t ms) i is = tt

declared_plain : (i : Item Terminal) (o : Option Declared) → IsPutPlain (declared_put i o)
declared_plain i None = tt
declared_plain i (Some d) = (refl, tt)

definition_plain : (o : Option Definition) → IsPutPlain (definition_put o)
definition_plain None = tt
definition_plain (Some d) = tt

put_plain : (f : Found) (s : State) (i : Item Terminal) (is : Items) → IsPutPlain (put_at f s i is)
put_plain f s i is =
    chosen_put (is_mark sign.Dot i) (dot_put s.before i is) _ (dot_plain s.before i is)
    (chosen_put (is_mark sign.Minus i) (arrow_put s.before i is) (name_put f s i is) (arrow_plain s.before i is)
    (chosen_put (is_zero s.depth && not f.spoiled && is_some (definition_at f.structs i is))
    (definition_put (definition_at f.structs i is))
    (declared_put i (declared s.depth f.structs i is)) (definition_plain (definition_at f.structs i is))
    (declared_plain i (declared s.depth f.structs i is))))

row_plain : (b : Before) (i : Item Terminal) → ArePlain (row_length b i)
row_plain Nothing i = tt
row_plain (OfOne ms) i = tt
row_plain (OfMany ms) i = tt
row_plain (OfRow ms) i = tt
row_plain (OfLength ms) i = index_plain i (count ms)
row_plain (OfType t ms) i = tt

lengths_plain : (b : Before) (i : Item Terminal) → ArePlain (lengths b i)
lengths_plain Nothing i = tt
lengths_plain (OfOne ms) i = tt
lengths_plain (OfMany ms) i = tt
lengths_plain (OfRow ms) i = tt
lengths_plain (OfLength ms) i = tt
lengths_plain (OfType One ms) i = both_plain (index_at i 1) (index_at i (count ms)) (index_plain i 1) (index_plain i (count ms))
lengths_plain (OfType Array ms) i = tt
lengths_plain (OfType Pointer ms) i = (refl, (refl, index_plain i (count ms)))

behind_plain : (s : State) (i : Item Terminal) → ArePlain (put_behind s i)
behind_plain s i =
    either_plain (is_mark sign.CloseBracket i) (row_length (innermost s.indices) i) (lengths s.before i)
    (row_plain (innermost s.indices) i) (lengths_plain s.before i)

-- ---- the tokens

abbrev GoBare : Onward → Onward → Type 0
GoBare go' go = (s : State) (k : ℕ) → IsBare (go' s k) (go s k)

put_bare : (f : Found) (s : State) (i : Item Terminal) (o : Option Put) (go go' : Onward) → IsPlain i → IsPutPlain o →
    GoBare go' go → IsBare (put_on f s i o go') (put_on f s i o go)
put_bare f s i None go go' h q r =
    either (is_mark sign.Dot i) (at i Unknown ∷ []) _ (at i Unknown ∷ []) _ refl
    (one i _ _ h (some (put_behind s i) _ _ (behind_plain s i) (r (behind f i s) 0)))
put_bare f s i (Some p) go go' h q r = some p.items _ _ q (r _ p.len)

on_bare : (k : ℕ) (f : Found) (s : State) (i : Item Terminal) (is : Items) (go go' : Onward) → IsPlain i → GoBare go' go →
    IsBare (rows_on f s k i is go') (rows_on f s k i is go)
on_bare zero f s i is go go' h r = put_bare f s i (put_at f s i is) go go' h (put_plain f s i is) r
on_bare (suc k) f s i is go go' h r = r s k

in_bare : (is : Items) (f : Found) (s : State) (k : ℕ) → IsBare (rows_from f s k (bare is)) (rows_from f s k is)
in_bare [] f s k = refl
in_bare (i ∷ is) f s k = step (in_bare is f) (is_directive i.terminal) refl
  where
    step : GoBare (λ s k. rows_from f s k (bare is)) (λ s k. rows_from f s k is) → (t : Bool) →
        is_directive i.terminal ≡ t → IsBare (rows_from f s k (bare (i ∷ is))) (rows_from f s k (i ∷ is))
    step ih true e = rw e (rw e (ih s k))
    step ih false e =
        rw e (rw e (ap (λ (js : Items). rows_on f s k i js (λ s k. rows_from f s k (bare is))) (same_bare is)
        ∙ on_bare k f s i (bare is) (λ s k. rows_from f s k is) (λ s k. rows_from f s k (bare is)) e ih))

pub rows_bare : (is : Items) → IsBare (in_rows (bare is)) (in_rows is)
rows_bare is =
    ap (λ (js : Items). rows_from (agreed (found 0 nothing_found js)) begin 0 (bare is)) (same_bare is)
    ∙ in_bare is (agreed (found 0 nothing_found (bare is))) begin 0

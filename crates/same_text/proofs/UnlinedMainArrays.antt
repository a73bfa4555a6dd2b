-- Arrays that main declares are put before it without a look at the lines of the tokens.
use Rattle.std.proofs.Common.{◌≡◌, ℕ, zero, suc, Bool, true, false, cond, List, [], ◌∷◌, length, Option, Some, None, refl, ap, ◌∙◌}
use Rattle.std.specs.Prelude.{◌&&◌, ◌||◌, not, nat_lt}
use Rattle.c_tokens.specs.declared.kind.Sign.TheVariants as sign
use Rattle.c_grammar.specs.Lexeme.{Uint64}
use Rattle.c_grammar.specs.Terminal.{Terminal, Fixed, same}
use Rattle.c_grammar.specs.Texts.{Item}
use Rattle.c_grammar.specs.Blocks.{Items, is_directive, bare}
use Rattle.c_grammar.specs.Constants.{is_mark, is_number}
use Rattle.c_grammar.specs.Allocations.{Reading, at_statement, begins_main, closed, entered, is_named, joined, kept, max_arrays, nothing_read, opened, passed}
use Rattle.c_grammar.specs.Triangles.{name_of}
use Rattle.c_grammar.specs.MainArrays.{all_lifted, are_numbers, array_in, array_named, array_typed, begun, behind_length, by_array, closes, closes_list, declared_on, ends_array, ends_behind, has_lengths, is_lifted, is_static, lifted, lifted_with, lists_numbers, looked, max_lengths, next, taken}
use Rattle.same_text.specs.Laws.{unlined}
use Rattle.same_text.proofs.Unlined.{all_unlined, bare_unlined}
use Rattle.same_text.proofs.UnlinedAllocations.{IsUnlined, both_unlined, closed_same, entered_same, joined_unlined, kept_same, main_same, named_same, opened_same, pick, reading_unlined, rest_unlined}

-- ---- declarations

list_same : (is : Items) → closes_list (all_unlined is) ≡ closes_list is
list_same [] = refl
list_same (b ∷ []) = refl
list_same (b ∷ s ∷ is) = refl

numbers_same : (is : Items) → are_numbers (all_unlined is) ≡ are_numbers is
numbers_same [] = refl
numbers_same (n ∷ []) = refl
numbers_same (n ∷ c ∷ is) =
    let last : Bool = closes_list (all_unlined is) in
    ap (λ (b : Bool). is_number n.terminal && (b || (is_mark sign.Comma c && (last || are_numbers (all_unlined is)))))
    (list_same (c ∷ is))
    ∙ ap (λ (b : Bool). is_number n.terminal && (closes_list (c ∷ is) || (is_mark sign.Comma c && (b || are_numbers (all_unlined is)))))
    (list_same is)
    ∙ ap (λ (b : Bool). is_number n.terminal && (closes_list (c ∷ is) || (is_mark sign.Comma c && (closes_list is || b))))
    (numbers_same is)

braces_same : (is : Items) → lists_numbers (all_unlined is) ≡ lists_numbers is
braces_same [] = refl
braces_same (o ∷ is) = ap (λ (b : Bool). is_mark sign.OpenBrace o && b) (numbers_same is)

end_same : (is : Items) → ends_array (all_unlined is) ≡ ends_array is
end_same [] = refl
end_same (e ∷ is) = ap (λ (b : Bool). is_mark sign.Semicolon e || (is_mark sign.Equal e && b)) (braces_same is)

length_same : (is : Items) → behind_length (all_unlined is) ≡ rest_unlined (behind_length is)
length_same [] = refl
length_same (o ∷ []) = refl
length_same (o ∷ n ∷ []) = refl
length_same (o ∷ n ∷ c ∷ is) = go (is_mark sign.OpenBracket o && is_number n.terminal && is_mark sign.CloseBracket c)
  where
    go : (b : Bool) → cond b (Some (all_unlined is)) None ≡ rest_unlined (cond b (Some is) None)
    go true = refl
    go false = refl

behind_same : (o : Option Items) (go : Items → Bool) → ((is : Items) → go (all_unlined is) ≡ go is) →
    ends_behind (rest_unlined o) go ≡ ends_behind o go
behind_same None go r = refl
behind_same (Some is) go r =
    ap (λ (b : Bool). b || go (all_unlined is)) (end_same is) ∙ ap (λ (b : Bool). ends_array is || b) (r is)

lengths_same : (k : ℕ) (is : Items) → has_lengths k (all_unlined is) ≡ has_lengths k is
lengths_same zero is = refl
lengths_same (suc k) is =
    ap (λ (o : Option Items). ends_behind o (λ js. has_lengths k js)) (length_same is)
    ∙ behind_same (behind_length is) (λ js. has_lengths k js) (lengths_same k)

array_same : (is : Items) → array_named (all_unlined is) ≡ array_named is
array_same [] = refl
array_same (x ∷ is) = ap (λ (b : Bool). cond b (name_of x.terminal) None) (lengths_same max_lengths is)

typed_same : (t : Item Terminal) (is : Items) → array_typed (unlined t) (all_unlined is) ≡ array_typed t is
typed_same t is = ap (λ (o : Option (List ℕ)). cond (same (Fixed Uint64) t.terminal) o None) (array_same is)

in_same : (i : Item Terminal) (is : Items) → array_in (unlined i) (all_unlined is) ≡ array_in i is
in_same i [] = refl
in_same i (t ∷ is) =
    ap (λ (o : Option (List ℕ)). cond (is_static i) o (array_typed (unlined i) (all_unlined (t ∷ is)))) (typed_same t is)
    ∙ ap (λ (o : Option (List ℕ)). cond (is_static i) (array_typed t is) o) (typed_same i (t ∷ is))

-- ---- all tokens

with_same : (i : Item Terminal) (r : Reading) → IsUnlined (lifted_with (unlined i) (reading_unlined r)) (lifted_with i r)
with_same i r = ap (λ (a : Items). record (reading_unlined r) { arrays = a }) (both_unlined r.arrays (i ∷ []))

closes_same : (is : Items) → closes (all_unlined is) ≡ closes is
closes_same [] = refl
closes_same (b ∷ is) = refl

on_same : (i : Item Terminal) (is : Items) (r : Reading) →
    IsUnlined (declared_on (unlined i) (all_unlined is) (reading_unlined r)) (declared_on i is r)
on_same i is r =
    pick (is_mark sign.Semicolon i) _ (closed i (lifted_with i r)) _ _ _ refl
    (ap (closed (unlined i)) (with_same i r) ∙ closed_same i (lifted_with i r))
    (pick (is_mark sign.Comma i && closes is) _ r (lifted_with i r) _ _
    (ap (λ (b : Bool). is_mark sign.Comma i && b) (closes_same is)) refl (with_same i r))

begun_same : (i : Item Terminal) (r : Reading) → IsUnlined (begun (unlined i) (reading_unlined r)) (begun i r)
begun_same i r =
    ap (opened (unlined i)) (pick (is_static i) _ r (lifted_with i r) _ _ refl refl (with_same i r))
    ∙ opened_same i (cond (is_static i) r (lifted_with i r))

lifted_alike : (x : List ℕ) (r : Reading) → is_lifted x (reading_unlined r) ≡ is_lifted x r
lifted_alike x r =
    ap (λ (b : Bool). nat_lt (length r.names) max_arrays && not b)
    (ap (is_named x) (bare_unlined r.done) ∙ named_same x (bare r.done))

by_array_same : (i : Item Terminal) (o : Option (List ℕ)) (r : Reading) →
    IsUnlined (by_array (unlined i) o (reading_unlined r)) (by_array i o r)
by_array_same i None r = kept_same i r
by_array_same i (Some x) r =
    pick (is_lifted x r) _ (begun i (looked x r)) (kept i (looked x r)) _ _ (lifted_alike x r)
    (begun_same i (looked x r)) (kept_same i (looked x r))

taken_same : (i : Item Terminal) (is : Items) (r : Reading) →
    IsUnlined (taken (unlined i) (all_unlined is) (reading_unlined r)) (taken i is r)
taken_same i is r =
    pick r.out _ _ _ _ _ refl (on_same i is r)
    (pick (at_statement r) _ _ _ _ _ refl
    (ap (λ (o : Option (List ℕ)). by_array (unlined i) o (reading_unlined r)) (in_same i is)
    ∙ by_array_same i (array_in i is) r)
    (pick (not r.inside && begins_main i is) _ (entered i r) (kept i r) _ _
    (ap (λ (b : Bool). not r.inside && b) (main_same i is)) (entered_same i r) (kept_same i r)))

next_same : (i : Item Terminal) (is : Items) (r : Reading) →
    IsUnlined (next (unlined i) (all_unlined is) (reading_unlined r)) (next i is r)
next_same i is r =
    pick (is_directive i.terminal) _ (passed i r) (taken i (bare is) r) _ _ refl
    (ap (λ (d : Items). record (reading_unlined (passed i r)) { done = d }) (both_unlined r.done (i ∷ [])))
    (ap (λ (js : Items). taken (unlined i) js (reading_unlined r)) (bare_unlined is) ∙ taken_same i (bare is) r)

all_same : (is : Items) (r : Reading) → IsUnlined (all_lifted (reading_unlined r) (all_unlined is)) (all_lifted r is)
all_same [] r = refl
all_same (i ∷ is) r =
    ap (λ (q : Reading). all_lifted q (all_unlined is)) (next_same i is r) ∙ all_same is (next i is r)

pub lifted_unlined : (is : Items) → lifted (all_unlined is) ≡ all_unlined (lifted is)
lifted_unlined is = ap joined (all_same is nothing_read) ∙ joined_unlined (all_lifted nothing_read is)

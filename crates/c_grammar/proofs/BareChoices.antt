-- Conditional operators are written out without a look at directive lines.
use Rattle.std.proofs.Common.{◌≡◌, ◌∙◌, ℕ, zero, suc, ◌+◌, ◌-◌, Bool, true, false, cond, [], ◌∷◌, ◌++◌, length, take, drop, Option, Some, None, refl, ap}
use Rattle.std.specs.Prelude.{◌==◌, ◌||◌}
use Rattle.c_tokens.specs.declared.kind.Sign.TheVariants as sign
use Rattle.c_grammar.specs.Lexeme.{Uint64}
use Rattle.c_grammar.specs.Terminal.{Terminal, Fixed, Mark, Unknown, same}
use Rattle.c_grammar.specs.Texts.{Item}
use Rattle.c_grammar.specs.Blocks.{Items, at, bare, is_directive}
use Rattle.c_grammar.specs.Choices.{Onward, Parts, State, all_alone, alone, assigned, begin, choice_len, chosen, chosen_in, chosen_on, condition_len, cut, cut_by, declared, either_at, first_len, held_name, is_question, left_len, lifted, lifted_by, max_choices, parts, parts_at, put_on, question_at, second_len, with_first, with_second, written}
use Rattle.c_grammar.specs.Changes.{reversed}
use Rattle.c_grammar.proofs.BareTokens.{ArePlain, IsBare, IsPlain, both_plain, either_plain, one, plain_bare, same_bare, some}
use Rattle.c_grammar.proofs.BareCalls.{take_plain, drop_plain}

-- ---- no directive line is put in

alone_plain : (i : Item Terminal) → IsPlain i → IsPlain (alone i)
alone_plain i h = go (is_question i)
  where
    go : (b : Bool) → IsPlain (cond b (at i Unknown) i)
    go true = refl
    go false = h

all_plain : (is : Items) → ArePlain is → ArePlain (all_alone is)
all_plain [] h = tt
all_plain (i ∷ is) h = (alone_plain i h.0, all_plain is h.1)

abbrev ArePartsPlain : Option Parts → Type 0
ArePartsPlain None = Unit {0}
ArePartsPlain (Some p) = ArePlain p.condition × ArePlain (with_first p) × ArePlain (with_second p)

cut_by_plain : (m : Item Terminal) (before is : Items) (n k l : ℕ) → ArePlain before → ArePlain is →
    ArePartsPlain (cut_by m before is n k l)
cut_by_plain m before is n k l h j = go ((n == 0) || (k == 0) || (l == 0))
  where
    left : ℕ
    left = length before - n

    rest : Items
    rest = drop (k + 1) is

    others : ArePlain rest
    others = drop_plain (k + 1) is j

    with : (ks : Items) → ArePlain ks → ArePlain (take left before ++ (ks ++ drop l rest))
    with ks h' = both_plain (take left before) (ks ++ drop l rest) (take_plain left before h)
        (both_plain ks (drop l rest) h' (drop_plain l rest others))

    go : (b : Bool) → ArePartsPlain (cond b None (Some (record {
      mark = m;
      before = take left before;
      condition = drop left before;
      first = take k is;
      second = take l rest;
      behind = drop l rest;
    })))
    go true = tt
    go false = (drop_plain left before h, with (take k is) (take_plain k is j), with (take l rest) (take_plain l rest others))

cut_plain : (before is : Items) → ArePlain before → ArePlain is → ArePartsPlain (cut before is)
cut_plain before [] h j = tt
cut_plain before (m ∷ is) h j =
    cut_by_plain m before is (condition_len 0 0 (reversed before [])) (first_len 0 0 0 is)
    (second_len 0 0 (drop (first_len 0 0 0 is + 1) is)) h j.1

parts_plain : (is : Items) → ArePlain is → ArePartsPlain (parts is)
parts_plain is h = go (question_at 0 is)
  where
    go : (o : Option ℕ) → ArePartsPlain (parts_at is o)
    go None = tt
    go (Some q) = cut_plain (take q is) (drop q is) (take_plain q is h) (drop_plain q is h)

either_at_plain : (i : Item Terminal) (c x y : Items) → ArePlain c → ArePlain x → ArePlain y → ArePlain (either_at i c x y)
either_at_plain i c x y h j k = (
  refl,
  (
    refl,
    both_plain (all_alone c) _ (all_plain c h)
        (refl, (refl, both_plain x _ j (refl, (refl, (refl, both_plain y _ k (refl, tt)))))),
  ),
)

lifted_plain : (n : ℕ) (is : Items) → ArePlain is → ArePlain (lifted n is)
lifted_plain zero is h = all_plain is h
lifted_plain (suc n) is h = go (parts is) (parts_plain is h) (lifted_plain n)
  where
    go : (o : Option Parts) → ArePartsPlain o → ((js : Items) → ArePlain js → ArePlain (lifted n js)) →
        ArePlain (lifted_by is o (lifted n))
    go None q r = all_plain is h
    go (Some p) q r =
        either_at_plain p.mark p.condition _ _ q.0 (r (with_first p) q.1) (r (with_second p) q.2)

declared_plain : (i : Item Terminal) (is : Items) → IsPlain i → ArePlain is → ArePlain (declared i is)
declared_plain i [] h j = (h, tt)
declared_plain i (x ∷ is) h j = (h, (j.0, (refl, (refl, (refl, lifted_plain max_choices (x ∷ is) j)))))

assigned_plain : (i : Item Terminal) (is : Items) (o : Option ℕ) → IsPlain i → ArePlain is → ArePlain (assigned i is o)
assigned_plain i is None h j = lifted_plain max_choices (i ∷ is) (h, j)
assigned_plain i is (Some n) h j = (
  refl,
  both_plain (declared (at i (Fixed Uint64)) (at i held_name ∷ at i (Mark sign.Equal) ∷ drop n is)) _
      (declared_plain (at i (Fixed Uint64)) (at i held_name ∷ at i (Mark sign.Equal) ∷ drop n is) refl
      (refl, (refl, drop_plain n is j)))
      (h, both_plain (take n is) _ (take_plain n is j) (refl, (refl, (refl, tt)))),
)

written_plain : (i : Item Terminal) (is : Items) → IsPlain i → ArePlain is → ArePlain (written i is)
written_plain i is h j =
    either_plain (same (Fixed Uint64) i.terminal) (declared i is) (assigned i is (left_len 0 0 is)) (declared_plain i is h j)
    (assigned_plain i is (left_len 0 0 is) h j)

-- ---- the tokens

abbrev GoBare : Onward → Onward → Type 0
GoBare go' go = (s : State) (k : ℕ) → IsBare (go' s k) (go s k)

put_bare : (s : State) (i : Item Terminal) (is : Items) (o : Option ℕ) (go go' : Onward) → IsPlain i → ArePlain is →
    GoBare go' go → IsBare (put_on s i is o go') (put_on s i is o go)
put_bare s i is None go go' h j r = one (alone i) _ _ (alone_plain i h) (r _ _)
put_bare s i is (Some n) go go' h j r =
    some (written i (take n is)) _ _ (written_plain i (take n is) h (take_plain n is j)) (r _ _)

chosen_on_bare : (k : ℕ) (s : State) (i : Item Terminal) (is : Items) (go go' : Onward) → IsPlain i → ArePlain is →
    GoBare go' go → IsBare (chosen_on s k i is go') (chosen_on s k i is go)
chosen_on_bare zero s i is go go' h j r = put_bare s i is (choice_len s i is) go go' h j r
chosen_on_bare (suc k) s i is go go' h j r = r _ _

chosen_in_bare : (is : Items) (s : State) (k : ℕ) → IsBare (chosen_in s k (bare is)) (chosen_in s k is)
chosen_in_bare [] s k = refl
chosen_in_bare (i ∷ is) s k = step (chosen_in_bare is) (is_directive i.terminal) refl
  where
    step : GoBare (λ s k. chosen_in s k (bare is)) (λ s k. chosen_in s k is) → (t : Bool) →
        is_directive i.terminal ≡ t → IsBare (chosen_in s k (bare (i ∷ is))) (chosen_in s k (i ∷ is))
    step ih true e = rw e (rw e (ih s k))
    step ih false e =
        rw e (rw e (ap (λ (js : Items). chosen_on s k i js (λ s k. chosen_in s k (bare is))) (same_bare is)
        ∙ chosen_on_bare k s i (bare is) (λ s k. chosen_in s k is) (λ s k. chosen_in s k (bare is)) e (plain_bare is) ih))

pub chosen_bare : (is : Items) → IsBare (chosen (bare is)) (chosen is)
chosen_bare is = chosen_in_bare is begin 0

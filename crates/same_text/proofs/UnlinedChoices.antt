-- Conditional operators are written out without a look at the lines of the tokens.
use Rattle.std.proofs.Common.{◌≡◌, ◌∙◌, ℕ, zero, suc, ◌+◌, ◌-◌, Bool, true, false, cond, [], ◌∷◌, ◌++◌, length, take, drop, Option, Some, None, refl, ap, ap₂}
use Rattle.std.specs.Prelude.{◌&&◌, ◌||◌, ◌==◌, nat_lt, not}
use Rattle.std.specs.Option.{option_map}
use Rattle.c_tokens.specs.declared.kind.Sign.TheVariants as sign
use Rattle.c_grammar.specs.Lexeme.{Uint64, If, Else, Print}
use Rattle.c_grammar.specs.Terminal.{Terminal, Fixed, Mark, Unknown, same}
use Rattle.c_grammar.specs.Texts.{Item}
use Rattle.c_grammar.specs.Blocks.{Items, at, bare, is_directive}
use Rattle.c_grammar.specs.Constants.{is_mark, is_name}
use Rattle.c_grammar.specs.Changes.{is_boundary, reversed}
use Rattle.c_grammar.specs.Unset.{zero_at}
use Rattle.c_grammar.specs.Choices.{Onward, Parts, State, all_alone, alone, assigned, begin, begins_condition, behind, brackets_before, brackets_behind, choice_len, choice_of, chosen, chosen_in, chosen_on, closes, condition_len, cut, cut_by, declared, either_at, ends_second, first_len, held_name, is_bracket, is_choice, is_initial, is_question, is_set, is_setting, left_len, lifted, lifted_by, max_between, max_choices, mentions, parts, parts_at, put_on, question_at, questions_behind, second_len, statement_len, with_first, with_second, written}
use Rattle.same_text.specs.Laws.{unlined}
use Rattle.same_text.proofs.Unlined.{AreUnlined, all_unlined, bare_unlined, either, one, some}
use Rattle.same_text.proofs.UnlinedPassed.{drop_unlined, length_unlined, take_unlined}
use Rattle.same_text.proofs.UnlinedTargets.{reversed_same}

-- ---- the parts of a statement

question_same : (is : Items) (n : ℕ) → question_at n (all_unlined is) ≡ question_at n is
question_same [] n = refl
question_same (i ∷ is) n = ap (λ (o : Option ℕ). cond (is_question i) (Some n) o) (question_same is (n + 1))

condition_same : (is : Items) (n b : ℕ) → condition_len n b (all_unlined is) ≡ condition_len n b is
condition_same [] n b = refl
condition_same (i ∷ is) n b =
    ap (λ (x : ℕ). cond ((b == 0) && begins_condition i) n x) (condition_same is (n + 1) (brackets_before i b))

first_same : (is : Items) (n b d : ℕ) → first_len n b d (all_unlined is) ≡ first_len n b d is
first_same [] n b d = refl
first_same (i ∷ is) n b d =
    ap₂ (λ (x y : ℕ). cond (b == 0) (cond (closes i) 0 (cond (is_mark sign.Colon i && (d == 0)) n x)) y)
    (first_same is (n + 1) (brackets_behind i b) (questions_behind i d)) (first_same is (n + 1) (brackets_behind i b) d)

second_same : (is : Items) (n b : ℕ) → second_len n b (all_unlined is) ≡ second_len n b is
second_same [] n b = refl
second_same (i ∷ is) n b =
    ap (λ (x : ℕ). cond ((b == 0) && ends_second i) n x) (second_same is (n + 1) (brackets_behind i b))

abbrev parts_unlined : Parts → Parts
parts_unlined p = record {
  mark = unlined p.mark;
  before = all_unlined p.before;
  condition = all_unlined p.condition;
  first = all_unlined p.first;
  second = all_unlined p.second;
  behind = all_unlined p.behind;
}

cut_by_same : (m : Item Terminal) (before is : Items) (n k l : ℕ) →
    cut_by (unlined m) (all_unlined before) (all_unlined is) n k l ≡ option_map parts_unlined (cut_by m before is n k l)
cut_by_same m before is n k l = go ((n == 0) || (k == 0) || (l == 0))
  where
    left : ℕ
    left = length before - n

    rest : Items
    rest = drop (k + 1) is

    front : take (length (all_unlined before) - n) (all_unlined before) ≡ all_unlined (take left before)
    front = ap (λ (x : ℕ). take (x - n) (all_unlined before)) (length_unlined before) ∙ take_unlined left before

    asked : drop (length (all_unlined before) - n) (all_unlined before) ≡ all_unlined (drop left before)
    asked = ap (λ (x : ℕ). drop (x - n) (all_unlined before)) (length_unlined before) ∙ drop_unlined left before

    other : take l (drop (k + 1) (all_unlined is)) ≡ all_unlined (take l rest)
    other = ap (take l) (drop_unlined (k + 1) is) ∙ take_unlined l rest

    end : drop l (drop (k + 1) (all_unlined is)) ≡ all_unlined (drop l rest)
    end = ap (drop l) (drop_unlined (k + 1) is) ∙ drop_unlined l rest

    both : Parts
    both = record {
      mark = m;
      before = take left before;
      condition = drop left before;
      first = take k is;
      second = take l rest;
      behind = drop l rest;
    }

    go : (b : Bool) →
        cond b None (Some (record {
          mark = unlined m;
          before = take (length (all_unlined before) - n) (all_unlined before);
          condition = drop (length (all_unlined before) - n) (all_unlined before);
          first = take k (all_unlined is);
          second = take l (drop (k + 1) (all_unlined is));
          behind = drop l (drop (k + 1) (all_unlined is));
        })) ≡ option_map parts_unlined (cond b None (Some both))
    go true = refl
    go false = λ t. Some (record {
      mark = unlined m;
      before = front t;
      condition = asked t;
      first = take_unlined k is t;
      second = other t;
      behind = end t;
    })

cut_same : (before is : Items) → cut (all_unlined before) (all_unlined is) ≡ option_map parts_unlined (cut before is)
cut_same before [] = refl
cut_same before (m ∷ is) =
    let n : ℕ = condition_len 0 0 (reversed before []) in
    let k : ℕ = first_len 0 0 0 is in
    let second : ℕ → ℕ = λ x. second_len 0 0 (drop (x + 1) (all_unlined is)) in
    ap (λ (x : ℕ). cut_by (unlined m) (all_unlined before) (all_unlined is) x (first_len 0 0 0 (all_unlined is))
    (second (first_len 0 0 0 (all_unlined is))))
    (ap (condition_len 0 0) (reversed_same before []) ∙ condition_same (reversed before []) 0 0)
    ∙ ap (λ (x : ℕ). cut_by (unlined m) (all_unlined before) (all_unlined is) n x (second x)) (first_same is 0 0 0)
    ∙ ap (λ (x : ℕ). cut_by (unlined m) (all_unlined before) (all_unlined is) n k x)
    (ap (second_len 0 0) (drop_unlined (k + 1) is) ∙ second_same (drop (k + 1) is) 0 0)
    ∙ cut_by_same m before is n k (second_len 0 0 (drop (k + 1) is))

parts_same : (is : Items) → parts (all_unlined is) ≡ option_map parts_unlined (parts is)
parts_same is = ap (parts_at (all_unlined is)) (question_same is 0) ∙ go (question_at 0 is)
  where
    go : (o : Option ℕ) → parts_at (all_unlined is) o ≡ option_map parts_unlined (parts_at is o)
    go None = refl
    go (Some q) =
        ap₂ (λ (x y : Items). cut x y) (take_unlined q is) (drop_unlined q is) ∙ cut_same (take q is) (drop q is)

-- ---- the statement, put twice

alone_same : (i : Item Terminal) → alone (unlined i) ≡ unlined (alone i)
alone_same i = go (is_question i)
  where
    go : (b : Bool) → cond b (at (unlined i) Unknown) (unlined i) ≡ unlined (cond b (at i Unknown) i)
    go true = refl
    go false = refl

all_same : (is : Items) → AreUnlined (all_alone (all_unlined is)) (all_alone is)
all_same [] = refl
all_same (i ∷ is) = ap₂ (λ (j : Item Terminal) (js : Items). j ∷ js) (alone_same i) (all_same is)

either_unlined : (i : Item Terminal) (c x y x' y' : Items) → AreUnlined x' x → AreUnlined y' y →
    AreUnlined (either_at (unlined i) (all_unlined c) x' y') (either_at i c x y)
either_unlined i c x y x' y' e f =
    let j : Item Terminal = unlined i in
    let end : Items = at i (Mark sign.CloseBrace) ∷ [] in
    let late : Items = at i (Mark sign.CloseBrace) ∷ at i (Fixed Else) ∷ at i (Mark sign.OpenBrace) ∷ (y ++ end) in
    ap (λ (js : Items). at j (Fixed If) ∷ at j (Mark sign.OpenParen) ∷ js)
    (some (all_alone c) (all_alone (all_unlined c)) (at i (Mark sign.CloseParen) ∷ at i (Mark sign.OpenBrace) ∷ (x ++ late)) _
    (all_same c)
    (ap (λ (js : Items). at j (Mark sign.CloseParen) ∷ at j (Mark sign.OpenBrace) ∷ js) (some x x' late _ e
    (ap (λ (js : Items). at j (Mark sign.CloseBrace) ∷ at j (Fixed Else) ∷ at j (Mark sign.OpenBrace) ∷ js)
    (some y y' end _ f refl)))))

joined_same : (xs ys zs : Items) → all_unlined xs ++ (all_unlined ys ++ all_unlined zs) ≡ all_unlined (xs ++ (ys ++ zs))
joined_same xs ys zs =
    some xs (all_unlined xs) (ys ++ zs) _ refl (some ys (all_unlined ys) zs (all_unlined zs) refl refl)

lifted_unlined : (n : ℕ) (is : Items) → AreUnlined (lifted n (all_unlined is)) (lifted n is)
lifted_unlined zero is = all_same is
lifted_unlined (suc n) is =
    ap (λ (o : Option Parts). lifted_by (all_unlined is) o (lifted n)) (parts_same is) ∙ go (parts is) (lifted_unlined n)
  where
    go : (o : Option Parts) → ((js : Items) → AreUnlined (lifted n (all_unlined js)) (lifted n js)) →
        AreUnlined (lifted_by (all_unlined is) (option_map parts_unlined o) (lifted n)) (lifted_by is o (lifted n))
    go None r = all_same is
    go (Some p) r =
        either_unlined p.mark p.condition (lifted n (with_first p)) (lifted n (with_second p)) _ _
        (ap (lifted n) (joined_same p.before p.first p.behind) ∙ r (with_first p))
        (ap (lifted n) (joined_same p.before p.second p.behind) ∙ r (with_second p))

declared_unlined : (i : Item Terminal) (is : Items) → AreUnlined (declared (unlined i) (all_unlined is)) (declared i is)
declared_unlined i [] = refl
declared_unlined i (x ∷ is) =
    let j : Item Terminal = unlined x in
    ap (λ (js : Items). unlined i ∷ j ∷ (zero_at j ++ (at j (Mark sign.Semicolon) ∷ js))) (lifted_unlined max_choices (x ∷ is))

left_same : (n b : ℕ) (is : Items) → left_len n b (all_unlined is) ≡ left_len n b is
left_same n b [] = refl
left_same n b (i ∷ is) =
    ap (λ (o : Option ℕ). cond (is_question i) None (cond ((b == 0) && not (is_mark sign.OpenBracket i))
    (cond (is_mark sign.Equal i && nat_lt 0 n) (Some (n + 1)) None) o)) (left_same (n + 1) (brackets_behind i b) is)

assigned_unlined : (i : Item Terminal) (is : Items) (o : Option ℕ) →
    AreUnlined (assigned (unlined i) (all_unlined is) o) (assigned i is o)
assigned_unlined i is None = lifted_unlined max_choices (i ∷ is)
assigned_unlined i is (Some n) =
    let t : Item Terminal = at i (Fixed Uint64) in
    let vs : Items = at i held_name ∷ at i (Mark sign.Equal) ∷ drop n is in
    let ends : Items = at i held_name ∷ at i (Mark sign.Semicolon) ∷ at i (Mark sign.CloseBrace) ∷ [] in
    ap (λ (js : Items). held_by (declared (unlined t) (unlined (at i held_name) ∷ unlined (at i (Mark sign.Equal)) ∷ js))
    (take n (all_unlined is))) (drop_unlined n is)
    ∙ ap (λ (js : Items). held_by js (take n (all_unlined is))) (declared_unlined t vs)
    ∙ ap (λ (js : Items). held_by (all_unlined (declared t vs)) js) (take_unlined n is)
    ∙ one (at i (Mark sign.OpenBrace)) (declared t vs ++ (i ∷ (take n is ++ ends)))
    (all_unlined (declared t vs) ++ (unlined i ∷ (all_unlined (take n is) ++ all_unlined ends)))
    (some (declared t vs) (all_unlined (declared t vs)) (i ∷ (take n is ++ ends))
    (unlined i ∷ (all_unlined (take n is) ++ all_unlined ends)) refl
    (one i (take n is ++ ends) (all_unlined (take n is) ++ all_unlined ends)
    (some (take n is) (all_unlined (take n is)) ends (all_unlined ends) refl refl)))
  where
    held_by : Items → Items → Items
    held_by ds ls =
        unlined (at i (Mark sign.OpenBrace)) ∷ (ds ++ (unlined i ∷ (ls ++
        (unlined (at i held_name) ∷ unlined (at i (Mark sign.Semicolon)) ∷ unlined (at i (Mark sign.CloseBrace)) ∷ []))))

written_unlined : (i : Item Terminal) (is : Items) → AreUnlined (written (unlined i) (all_unlined is)) (written i is)
written_unlined i is =
    either (same (Fixed Uint64) i.terminal) (same (Fixed Uint64) i.terminal) _ _ _ _ refl (declared_unlined i is)
    (ap (assigned (unlined i) (all_unlined is)) (left_same 0 0 is) ∙ assigned_unlined i is (left_len 0 0 is))

-- ---- which statements these are

set_same : (is : Items) (b : ℕ) → is_set b (all_unlined is) ≡ is_set b is
set_same [] b = refl
set_same (i ∷ is) b =
    ap (λ (t : Bool). cond ((b == 0) && not (is_mark sign.OpenBracket i)) (is_setting i.terminal) t)
    (set_same is (brackets_behind i b))

bracket_same : (is : Items) → is_bracket (all_unlined is) ≡ is_bracket is
bracket_same [] = refl
bracket_same (i ∷ is) = refl

mentions_same : (t : Terminal) (is : Items) → mentions t (all_unlined is) ≡ mentions t is
mentions_same t [] = refl
mentions_same t (i ∷ is) = ap (λ (b : Bool). same t i.terminal || b) (mentions_same t is)

initial_same : (is : Items) → is_initial (all_unlined is) ≡ is_initial is
initial_same [] = refl
initial_same (x ∷ []) = refl
initial_same (x ∷ e ∷ is) =
    ap (λ (b : Bool). is_name x.terminal && is_mark sign.Equal e && not b) (mentions_same x.terminal is)

choice_same : (i : Item Terminal) (is : Items) → is_choice (unlined i) (all_unlined is) ≡ is_choice i is
choice_same i is = λ k.
    cond (same (Fixed Uint64) i.terminal) (initial_same is k)
    (cond (same (Fixed Print) i.terminal) (bracket_same is k) (is_name i.terminal && set_same is 0 k))

statement_same : (is : Items) (asks : Bool) (n b : ℕ) → statement_len asks n b (all_unlined is) ≡ statement_len asks n b is
statement_same [] asks n b = refl
statement_same (i ∷ is) asks n b =
    ap (λ (o : Option ℕ). cond (is_boundary i.terminal)
    (cond (asks && (b == 0) && is_mark sign.Semicolon i) (Some (n + 1)) None) (cond (nat_lt n max_between) o None))
    (statement_same is (asks || is_question i) (n + 1) (brackets_behind i b))

of_same : (i : Item Terminal) (is : Items) (o : Option ℕ) → choice_of (unlined i) (all_unlined is) o ≡ choice_of i is o
of_same i is None = refl
of_same i is (Some n) =
    ap (λ (t : Bool). cond t (Some n) None)
    (ap (is_choice (unlined i)) (take_unlined n is) ∙ choice_same i (take n is))

len_same : (s : State) (i : Item Terminal) (is : Items) → choice_len s (unlined i) (all_unlined is) ≡ choice_len s i is
len_same s i is =
    ap (λ (o : Option ℕ). cond (s.starts && not (s.blocks == 0)) o None)
    (ap (choice_of (unlined i) (all_unlined is)) (statement_same is false 0 0)
    ∙ of_same i is (statement_len false 0 0 is))

-- ---- the tokens

abbrev GoesSame : Onward → Onward → Type 0
GoesSame go' go = (s : State) (k : ℕ) → AreUnlined (go' s k) (go s k)

put_unlined : (s : State) (i : Item Terminal) (is : Items) (o : Option ℕ) (go go' : Onward) → GoesSame go' go →
    AreUnlined (put_on s (unlined i) (all_unlined is) o go') (put_on s i is o go)
put_unlined s i is None go go' r =
    ap (λ (j : Item Terminal). j ∷ go' (behind i s) 0) (alone_same i) ∙ one (alone i) (go (behind i s) 0) _ (r (behind i s) 0)
put_unlined s i is (Some n) go go' r =
    some (written i (take n is)) (written (unlined i) (take n (all_unlined is))) _ _
    (ap (written (unlined i)) (take_unlined n is) ∙ written_unlined i (take n is)) (r s n)

on_unlined : (k : ℕ) (s : State) (i : Item Terminal) (is : Items) (go go' : Onward) → GoesSame go' go →
    AreUnlined (chosen_on s k (unlined i) (all_unlined is) go') (chosen_on s k i is go)
on_unlined zero s i is go go' r =
    ap (λ (o : Option ℕ). put_on s (unlined i) (all_unlined is) o go') (len_same s i is)
    ∙ put_unlined s i is (choice_len s i is) go go' r
on_unlined (suc k) s i is go go' r = r s k

in_unlined : (is : Items) (s : State) (k : ℕ) → AreUnlined (chosen_in s k (all_unlined is)) (chosen_in s k is)
in_unlined [] s k = refl
in_unlined (i ∷ is) s k = step (is_directive i.terminal) (λ s k. in_unlined is s k)
  where
    step : (t : Bool) → GoesSame (λ s k. chosen_in s k (all_unlined is)) (λ s k. chosen_in s k is) →
        AreUnlined
        (cond t (unlined i ∷ chosen_in s k (all_unlined is))
        (chosen_on s k (unlined i) (bare (all_unlined is)) (λ s k. chosen_in s k (all_unlined is))))
        (cond t (i ∷ chosen_in s k is) (chosen_on s k i (bare is) (λ s k. chosen_in s k is)))
    step true ih = one i (chosen_in s k is) (chosen_in s k (all_unlined is)) (ih s k)
    step false ih =
        ap (λ (js : Items). chosen_on s k (unlined i) js (λ s k. chosen_in s k (all_unlined is))) (bare_unlined is)
        ∙ on_unlined k s i (bare is) (λ s k. chosen_in s k is) (λ s k. chosen_in s k (all_unlined is)) ih

pub chosen_unlined : (is : Items) → AreUnlined (chosen (all_unlined is)) (chosen is)
chosen_unlined is = in_unlined is begin 0

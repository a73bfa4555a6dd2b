-- What is assigned, and what follows, is found without a look at the lines of the tokens.
use Rattle.std.proofs.Common.{◌≡◌, ℕ, ◌+◌, ◌-◌, Bool, true, false, cond, [], ◌∷◌, refl, ap, ap₂, ◌∙◌}
use Rattle.std.specs.Prelude.{◌&&◌, ◌||◌, codes, not, nat_le}
use Rattle.c_tokens.specs.declared.kind.Sign.TheVariants as sign
use Rattle.c_grammar.specs.Terminal.{Terminal, Name, same}
use Rattle.c_grammar.specs.Texts.{Item}
use Rattle.c_grammar.specs.Blocks.{Items}
use Rattle.c_grammar.specs.Changes.{is_mark, is_name, closes_index, is_target_ended, reversed, is_cell, is_target, first_of, is_number_ended, is_ended, is_empty, is_main, is_last_return, closes_head, is_name_closed, limit_behind, is_pointed, is_bracketed, vector_len, words_len}
use Rattle.same_text.specs.Laws.{unlined}
use Rattle.same_text.proofs.Unlined.{all_unlined}

pub closes_same : (n : ℕ) (is : Items) → closes_index n (all_unlined is) ≡ closes_index n is
closes_same n [] = refl
closes_same n (i ∷ []) = refl
closes_same n (i ∷ j ∷ is) =
    ap
    (λ (b : Bool). cond (is_mark sign.Semicolon i) false
    (cond (is_mark sign.OpenBracket i) b
    (cond (is_mark sign.CloseBracket i)
    (cond (nat_le n 1) (is_mark sign.Semicolon j) (closes_index (n - 1) (unlined j ∷ all_unlined is)))
    (closes_index n (unlined j ∷ all_unlined is)))))
    (closes_same (n + 1) (j ∷ is))
    ∙ ap
    (λ (b : Bool). cond (is_mark sign.Semicolon i) false
    (cond (is_mark sign.OpenBracket i) (closes_index (n + 1) (j ∷ is))
    (cond (is_mark sign.CloseBracket i) (cond (nat_le n 1) (is_mark sign.Semicolon j) b)
    (closes_index n (unlined j ∷ all_unlined is)))))
    (closes_same (n - 1) (j ∷ is))
    ∙ ap
    (λ (b : Bool). cond (is_mark sign.Semicolon i) false
    (cond (is_mark sign.OpenBracket i) (closes_index (n + 1) (j ∷ is))
    (cond (is_mark sign.CloseBracket i) (cond (nat_le n 1) (is_mark sign.Semicolon j) (closes_index (n - 1) (j ∷ is)))
    b)))
    (closes_same n (j ∷ is))

pub target_ended_same : (is : Items) → is_target_ended (all_unlined is) ≡ is_target_ended is
target_ended_same [] = refl
target_ended_same (i ∷ []) = refl
target_ended_same (i ∷ j ∷ is) =
    ap (λ (b : Bool). is_name i.terminal && (is_mark sign.Semicolon j || b)) (closes_same 0 (j ∷ is))

pub reversed_same : (is js : Items) → reversed (all_unlined is) (all_unlined js) ≡ all_unlined (reversed is js)
reversed_same [] js = refl
reversed_same (i ∷ is) js = reversed_same is (i ∷ js)

pub cell_same : (first : Bool) (is : Items) → is_cell first (all_unlined is) ≡ is_cell first is
cell_same first [] = refl
cell_same first (i ∷ []) = refl
cell_same first (i ∷ j ∷ is) =
    ap (λ (b : Bool). (not first || is_mark sign.OpenBracket i) && b) (cell_same false (j ∷ is))

pub target_same : (is : Items) → is_target (all_unlined is) ≡ is_target is
target_same [] = refl
target_same (i ∷ []) = refl
target_same (i ∷ j ∷ is) = ap (λ (b : Bool). is_name i.terminal && b) (cell_same true (j ∷ is))

pub first_same : (is : Items) (i : Item Terminal) → first_of (all_unlined is) (unlined i) ≡ unlined (first_of is i)
first_same [] i = refl
first_same (j ∷ js) i = refl

pub number_ended_same : (is : Items) → is_number_ended (all_unlined is) ≡ is_number_ended is
number_ended_same [] = refl
number_ended_same (i ∷ []) = refl
number_ended_same (i ∷ j ∷ is) = refl

pub ended_same : (is : Items) → is_ended (all_unlined is) ≡ is_ended is
ended_same [] = refl
ended_same (i ∷ is) = refl

pub empty_same : (is : Items) → is_empty (all_unlined is) ≡ is_empty is
empty_same [] = refl
empty_same (i ∷ is) = refl

pub main_same : (is : Items) → is_main (all_unlined is) ≡ is_main is
main_same [] = refl
main_same (i ∷ []) = refl
main_same (i ∷ j ∷ is) = refl

pub return_same : (is : Items) → is_last_return (all_unlined is) ≡ is_last_return is
return_same [] = refl
return_same (n ∷ []) = refl
return_same (n ∷ s ∷ []) = refl
return_same (n ∷ s ∷ b ∷ []) = refl
return_same (n ∷ s ∷ b ∷ i ∷ is) = refl

pub head_closed_same : (is : Items) → closes_head (all_unlined is) ≡ closes_head is
head_closed_same [] = refl
head_closed_same (i ∷ is) = refl

pointed_same : (is : Items) → is_pointed (all_unlined is) ≡ is_pointed is
pointed_same [] = refl
pointed_same (p ∷ []) = refl
pointed_same (p ∷ x ∷ []) = refl
pointed_same (p ∷ x ∷ b ∷ is) = refl

bracketed_same : (is : Items) → is_bracketed (all_unlined is) ≡ is_bracketed is
bracketed_same [] = refl
bracketed_same (x ∷ []) = refl
bracketed_same (x ∷ o ∷ []) = refl
bracketed_same (x ∷ o ∷ c ∷ []) = refl
bracketed_same (x ∷ o ∷ c ∷ b ∷ is) = refl

vector_same : (is : Items) → vector_len (all_unlined is) ≡ vector_len is
vector_same is =
    ap₂ (λ (p b : Bool). cond p 6 (cond b 7 0)) (pointed_same is) (bracketed_same is)

-- the words of the command
pub words_same : (is : Items) → words_len (all_unlined is) ≡ words_len is
words_same [] = refl
words_same (x ∷ []) = refl
words_same (x ∷ c ∷ []) = refl
words_same (x ∷ c ∷ t ∷ []) = refl
words_same (x ∷ c ∷ t ∷ p ∷ is) =
    ap (λ (n : ℕ). cond
    (is_name x.terminal && is_mark sign.Comma c && same (Name (codes "char")) t.terminal && is_mark sign.Star p) n 0)
    (vector_same is)

pub name_closed_same : (is : Items) → is_name_closed (all_unlined is) ≡ is_name_closed is
name_closed_same [] = refl
name_closed_same (x ∷ []) = refl
name_closed_same (x ∷ b ∷ is) = refl

pub limit_same : (is : Items) → limit_behind (all_unlined is) ≡ limit_behind is
limit_same [] = refl
limit_same (n ∷ []) = refl
limit_same (n ∷ s ∷ is) = refl

-- What is known of a line, and which rule a token breaks.
use Rattle.std.proofs.Common.{◌≡◌, ℕ, Bool, true, false, List, [], ◌∷◌, ◌++◌, Option, Some, None, refl, sym, ◌∙◌}
use Rattle.std.specs.Prelude.{◌||◌, nat_le, if◌then◌else◌}
use Rattle.std.specs.List.{list_any}
use Rattle.std.specs.Str.{bytes_eq}
use Rattle.std.specs.Borrow.{Bor}
use Rattle.std.proofs.Math.Bool.{or-false}
use Rattle.base.specs.declared.fault.ReadCode.{ReadCode as Code}
use Rattle.base.specs.declared.fault.ReadCode.TheVariants.{UnknownByte, BadNumber, TooMany, ClauseCount, ArrayTwice, BadDevice}
use Rattle.c_grammar.specs.Lexeme.{Lexeme, Reserved, Signed, Worded, Numbered, Strange, Ended}
use Rattle.c_grammar.specs.LineGrammar.{Amount}
use Rattle.c_grammar.specs.LineRules.{LineContext, max_depends, max_terms, has_single, is_among, is_name_among, is_no_device, same_amount, is_strange, is_bad_number, is_long, line_wrong, line_breaks}
use Rattle.c_grammar.specs.LineMachine.{line_first_broken, line_first_wrong}
use Rattle.directives.specs.declared.known.Act.{Act}
use Rattle.directives.specs.declared.known.Act.TheVariants as act
use Rattle.directives.specs.declared.tree.Amount.{Amount as GivenAmount}
use Rattle.directives.specs.Kinds.{seen_amount}
use Rattle.directives.specs.Known.{names_onto, amounts_onto, own_code, first_some, broken_by, seen_act, seen_single}

-- ---- the names that were there

pub names_one_more : (xs : List (Bor (List ℕ))) (x : Bor (List ℕ)) (ys : List (List ℕ)) →
    names_onto (xs ++ x ∷ []) ys ≡ x.now ∷ names_onto xs ys
names_one_more [] x ys = refl
names_one_more (z ∷ zs) x ys = names_one_more zs x (z.now ∷ ys)

turned : (a b c : Bool) → ((a || b) || c) ≡ (b || (a || c))
turned true true c = refl
turned true false c = refl
turned false true c = refl
turned false false c = refl

among : (xs : List (Bor (List ℕ))) (ys : List (List ℕ)) (y : List ℕ) →
    is_among (names_onto xs ys) y ≡ (is_among ys y || list_any (λ x. bytes_eq x.now y) xs)
among [] ys y = sym (or-false (is_among ys y))
among (x ∷ xs) ys y = among xs (x.now ∷ ys) y ∙ turned (bytes_eq x.now y) (is_among ys y)
    (list_any (λ x. bytes_eq x.now y) xs)

pub any_is_among : (xs : List (Bor (List ℕ))) (y : List ℕ) →
    is_among (names_onto xs []) y ≡ list_any (λ x. bytes_eq x.now y) xs
any_is_among xs y = among xs [] y

-- ---- the amounts that were there

pub amounts_one_more : (xs : List GivenAmount) (x : GivenAmount) (ys : List Amount) →
    amounts_onto (xs ++ x ∷ []) ys ≡ seen_amount x ∷ amounts_onto xs ys
amounts_one_more [] x ys = refl
amounts_one_more (z ∷ zs) x ys = amounts_one_more zs x (seen_amount z ∷ ys)

amount_among : (xs : List GivenAmount) (ys : List Amount) (a : Amount) →
    list_any (same_amount a) (amounts_onto xs ys)
    ≡ (list_any (same_amount a) ys || list_any (λ x. same_amount a (seen_amount x)) xs)
amount_among [] ys a = sym (or-false (list_any (same_amount a) ys))
amount_among (x ∷ xs) ys a =
    amount_among xs (seen_amount x ∷ ys) a
    ∙ turned (same_amount a (seen_amount x)) (list_any (same_amount a) ys) (list_any (λ x. same_amount a (seen_amount x)) xs)

pub any_is_amount : (xs : List GivenAmount) (a : Amount) →
    list_any (same_amount a) (amounts_onto xs []) ≡ list_any (λ x. same_amount a (seen_amount x)) xs
any_is_amount xs a = amount_among xs [] a

-- ---- the rules

lowest : (a b l m cc at d : Bool) →
    (if a || false then Some UnknownByte
    else (if b || false then Some BadNumber
    else (if l || m then Some TooMany
    else (if false || cc then Some ClauseCount
    else (if false || at then Some ArrayTwice
    else (if false || d then Some BadDevice
    else None)))))) ≡ first_some
    (if a then Some UnknownByte else (if b then Some BadNumber else (if l then Some TooMany else None)))
    (if m then Some TooMany
    else (if cc then Some ClauseCount else (if at then Some ArrayTwice else (if d then Some BadDevice else None))))
lowest true b l m cc at d = refl
lowest false true l m cc at d = refl
lowest false false true m cc at d = refl
lowest false false false true cc at d = refl
lowest false false false false true at d = refl
lowest false false false false false true d = refl
lowest false false false false false false true = refl
lowest false false false false false false false = refl

-- a word may be too long, and a number is none
long_only : (l : Bool) → (if l || false then Some TooMany else None) ≡ first_some (if l then Some TooMany else None) None
long_only true = refl
long_only false = refl

-- a sign may be a question mark or a dot
strange_only : (l : Bool) →
    (if l || false then Some UnknownByte else None) ≡ first_some (if l then Some UnknownByte else None) None
strange_only true = refl
strange_only false = refl

pub broken_is : (c : LineContext) (t : Lexeme) (a : Act) (m : Option Code) (n : Lexeme) →
    line_first_broken c (t, (m, seen_act a)) n ≡ broken_by c t (seen_act a)
unfolding line_first_broken line_breaks line_wrong broken_by
broken_is c t act.Plain m n = lowest (is_strange t) (is_bad_number t) (is_long t) false false false false
broken_is c t act.Demands m n = lowest (is_strange t) (is_bad_number t) (is_long t) false false false false
broken_is c t act.Meets m n = lowest (is_strange t) (is_bad_number t) (is_long t) false false false false
broken_is c t (act.Once what) m n = lowest (is_strange t) (is_bad_number t) (is_long t) false
    (has_single (seen_single what) c) false false
broken_is c t act.Ends m n = lowest (is_strange t) (is_bad_number t) (is_long t) false c.missing false false
broken_is c t act.Maps m n = lowest (is_strange t) (is_bad_number t) (is_long t) false false
    (is_name_among c.arrays t) false
broken_is c t act.Depends m n = lowest (is_strange t) (is_bad_number t) (is_long t)
    (nat_le max_depends c.depends) false false false
broken_is c t act.Numbers m n = lowest (is_strange t) (is_bad_number t) (is_long t) false false false (is_no_device t)
broken_is c (Numbered None) (act.Amounts a) m n = refl
broken_is c (Numbered (Some k)) (act.Amounts a) m n = refl
broken_is c (Worded x) (act.Amounts a) m n = long_only (is_long (Worded x))
broken_is c (Reserved x) (act.Amounts a) m n = refl
broken_is c (Signed x) (act.Amounts a) m n = strange_only (is_strange (Signed x))
broken_is c Strange (act.Amounts a) m n = refl
broken_is c Ended (act.Amounts a) m n = refl
broken_is c (Numbered None) act.Chunks m n = refl
broken_is c (Numbered (Some k)) act.Chunks m n = refl
broken_is c (Worded x) act.Chunks m n = long_only (is_long (Worded x))
broken_is c (Reserved x) act.Chunks m n = refl
broken_is c (Signed x) act.Chunks m n = strange_only (is_strange (Signed x))
broken_is c Strange act.Chunks m n = refl
broken_is c Ended act.Chunks m n = refl
broken_is c t act.Opens m n = lowest (is_strange t) (is_bad_number t) (is_long t) false false false false
broken_is c t act.Begins m n = lowest (is_strange t) (is_bad_number t) (is_long t)
    (nat_le max_terms c.terms) false false false
broken_is c t act.BeginsNamed m n = lowest (is_strange t) (is_bad_number t) (is_long t)
    (nat_le max_terms c.terms) false false false
broken_is c t act.Times m n = lowest (is_strange t) (is_bad_number t) (is_long t) false false false false

pub wrong_is : (t : Lexeme) → line_first_wrong t ≡ own_code t
unfolding line_first_wrong line_wrong
wrong_is t = refl

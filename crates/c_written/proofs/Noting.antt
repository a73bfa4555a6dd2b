-- The constant, or the length of an array, that a token ends.
use Rattle.std.proofs.Common.{◌≡◌, ◌∙◌, ℕ, zero, suc, Bool, true, false, cond, List, [], ◌∷◌, map, Some, None, refl, sym, ap}
use Rattle.std.specs.Option.{option_map}
use Rattle.c_grammar.specs.Lexeme.{Uint64}
use Rattle.c_grammar.specs.Terminal.{Terminal, Fixed, Mark, Name, Num, Line, Unknown, Unworked, End, same}
use Rattle.c_grammar.specs.Expressions.{Values}
use Rattle.c_grammar.specs.Constants as constants
use Rattle.c_grammar.specs.Constants.{array_length, bound, declared, ended_constant, ends_with, lengths, with_length}
use Rattle.c_terminals.specs.declared.token.Terminal.{Terminal as Given}
use Rattle.c_terminals.specs.Seen.{seen_terminal}
use Rattle.c_written.specs.Stack.{item_at}
use Rattle.c_written.specs.Names.{declared_last, is_uint64, with_name}
use Rattle.c_written.specs.Constants.{constant_ended, ends_by, ends_constant, length_ended, with_constant}

pub seen_at : (k : ℕ) (xs : List Given) → option_map seen_terminal (item_at k xs) ≡ item_at k (map seen_terminal xs)
seen_at k [] = refl
seen_at zero (x ∷ xs) = refl
seen_at (suc k) (x ∷ xs) = seen_at k xs

-- ---- whether a constant ends

pub ends_some : (xs : List Given) (x : Given) → item_at 0 xs ≡ Some x →
    ends_constant (map seen_terminal xs) ≡ ends_by (seen_terminal x) (map seen_terminal xs)
ends_some [] x e = absurd cc
ends_some (y ∷ ys) x e =
    let same : y ≡ x = cc in
    ap (λ (z : Given). ends_by (seen_terminal z) (map seen_terminal (y ∷ ys))) same

pub ends_none : (xs : List Given) → item_at 0 xs ≡ None → ends_constant (map seen_terminal xs) ≡ false
ends_none [] e = refl
ends_none (y ∷ ys) e = absurd cc

-- ---- with a constant, or without

nothing : (b : Bool) (vs : Values) → vs ≡ with_constant (cond b None None) vs
nothing true vs = refl
nothing false vs = refl

one : (b : Bool) (x : List ℕ) (n : ℕ) (vs : Values) →
    cond b ((x, n) ∷ vs) vs ≡ with_constant (cond b (Some (x, n)) None) vs
one true x n vs = refl
one false x n vs = refl

pub constant_is : (vs : Values) (ts : List Terminal) → ended_constant vs ts ≡ with_constant (constant_ended ts) vs
constant_is vs [] = refl
constant_is vs (t ∷ []) = nothing (ends_constant (t ∷ [])) vs
constant_is vs (t ∷ Num o ∷ []) = nothing (ends_constant (t ∷ Num o ∷ [])) vs
constant_is vs (t ∷ n ∷ []) = nothing (ends_constant (t ∷ n ∷ [])) vs
constant_is vs (t ∷ Num o ∷ e ∷ []) = nothing (ends_constant (t ∷ Num o ∷ e ∷ [])) vs
constant_is vs (t ∷ n ∷ e ∷ []) = nothing (ends_constant (t ∷ n ∷ e ∷ [])) vs
constant_is vs (t ∷ Num (Some n) ∷ e ∷ Name x ∷ ts) = one (ends_constant (t ∷ Num (Some n) ∷ e ∷ Name x ∷ ts)) x n vs
constant_is vs (t ∷ Num None ∷ e ∷ Name x ∷ ts) = unbound (ends_constant (t ∷ Num None ∷ e ∷ Name x ∷ ts))
  where
    unbound : (b : Bool) → cond b (bound x None vs) vs ≡ with_constant (cond b None None) vs
    unbound true = refl
    unbound false = refl
constant_is vs (t ∷ Num (Some n) ∷ e ∷ x ∷ ts) = nothing (ends_constant (t ∷ Num (Some n) ∷ e ∷ x ∷ ts)) vs
constant_is vs (t ∷ Num None ∷ e ∷ x ∷ ts) = nothing (ends_constant (t ∷ Num None ∷ e ∷ x ∷ ts)) vs
constant_is vs (t ∷ n ∷ e ∷ Name x ∷ ts) = nothing (ends_constant (t ∷ n ∷ e ∷ Name x ∷ ts)) vs
constant_is vs (t ∷ n ∷ e ∷ x ∷ ts) = nothing (ends_constant (t ∷ n ∷ e ∷ x ∷ ts)) vs

abbrev with_ended : List Terminal → Values → Values
with_ended ts ls = with_constant (length_ended ts) ls

pub length_is : (t : Terminal) (ts : List Terminal) (ls : Values) → with_length t ts ls ≡ with_ended (t ∷ ts) ls
length_is (Num (Some n)) (b ∷ Name x ∷ ts) ls = one (ends_with array_length (b ∷ Name x ∷ ts)) x n ls
length_is (Num (Some n)) (b ∷ x ∷ ts) ls = nothing (ends_with array_length (b ∷ x ∷ ts)) ls
length_is (Num (Some n)) (b ∷ []) ls = nothing (ends_with array_length (b ∷ [])) ls
length_is (Num (Some n)) [] ls = nothing (ends_with array_length []) ls
length_is (Num None) [] ls = nothing (ends_with array_length []) ls
length_is (Num None) (b ∷ []) ls = nothing (ends_with array_length (b ∷ [])) ls
length_is (Num None) (b ∷ Name x ∷ ts) ls = nothing (ends_with array_length (b ∷ Name x ∷ ts)) ls
length_is (Num None) (b ∷ x ∷ ts) ls = nothing (ends_with array_length (b ∷ x ∷ ts)) ls
length_is t [] ls = nothing (ends_with array_length []) ls
length_is t (b ∷ []) ls = nothing (ends_with array_length (b ∷ [])) ls
length_is t (b ∷ Name x ∷ ts) ls = nothing (ends_with array_length (b ∷ Name x ∷ ts)) ls
length_is t (b ∷ x ∷ ts) ls = nothing (ends_with array_length (b ∷ x ∷ ts)) ls

-- the lengths, with one that the token ends
pub lengths_more : (t : Terminal) (old new : List Terminal) (ls ms : Values) → new ≡ t ∷ old → ls ≡ lengths old →
    ms ≡ with_constant (length_ended new) ls → ms ≡ lengths new
lengths_more t old new ls ms e f g =
    g ∙ ap (with_constant (length_ended new)) f
    ∙ ap (λ (ts : List Terminal). with_constant (length_ended ts) (lengths old)) e
    ∙ sym (length_is t old (lengths old)) ∙ ap lengths (sym e)

-- the constants, with one that the token ends
pub constants_more : (ts new : List Terminal) (vs ws : Values) → new ≡ ts → ws ≡ with_constant (constant_ended new) vs →
    ws ≡ ended_constant vs ts
constants_more ts new vs ws e f =
    f ∙ ap (λ (us : List Terminal). with_constant (constant_ended us) vs) e ∙ sym (constant_is vs ts)

-- ---- the name that a token declares

name_by : (b : Bool) (x : List ℕ) (ns : List (List ℕ)) → cond b (x ∷ ns) ns ≡ with_name (cond b (Some x) None) ns
name_by true x ns = refl
name_by false x ns = refl

no_name : (b : Bool) (ns : List (List ℕ)) → ns ≡ with_name (cond b None None) ns
no_name true ns = refl
no_name false ns = refl

name_is : (t : Terminal) (ts : List Terminal) (ns : List (List ℕ)) →
    constants.with_name t ts ns ≡ with_name (declared_last (t ∷ ts)) ns
name_is (Name x) [] ns = refl
name_is (Name x) (t ∷ ts) ns = name_by (same (Fixed Uint64) t) x ns
name_is (Fixed w) ts ns = no_name (is_uint64 (item_at 1 (Fixed w ∷ ts))) ns
name_is (Mark s) ts ns = no_name (is_uint64 (item_at 1 (Mark s ∷ ts))) ns
name_is (Num n) ts ns = no_name (is_uint64 (item_at 1 (Num n ∷ ts))) ns
name_is (Line ls) ts ns = no_name (is_uint64 (item_at 1 (Line ls ∷ ts))) ns
name_is Unknown ts ns = no_name (is_uint64 (item_at 1 (Unknown ∷ ts))) ns
name_is Unworked ts ns = no_name (is_uint64 (item_at 1 (Unworked ∷ ts))) ns
name_is End ts ns = no_name (is_uint64 (item_at 1 (End ∷ ts))) ns

-- the names, with one that the token declares
pub names_more : (t : Terminal) (old new : List Terminal) (ns ms : List (List ℕ)) → new ≡ t ∷ old → ns ≡ declared old →
    ms ≡ with_name (declared_last new) ns → ms ≡ declared new
names_more t old new ns ms e f g =
    g ∙ ap (with_name (declared_last new)) f
    ∙ ap (λ (ts : List Terminal). with_name (declared_last ts) (declared old)) e
    ∙ sym (name_is t old (declared old)) ∙ ap declared (sym e)

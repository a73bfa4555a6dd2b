-- Definitions of constants are left out without a look at the lines of the tokens.
use Rattle.std.proofs.Common.{◌≡◌, ℕ, zero, suc, ◌+◌, Bool, true, false, cond, List, [], ◌∷◌, Option, Some, None, refl, ap, ◌∙◌}
use Rattle.std.specs.Prelude.{◌&&◌, nat_le}
use Rattle.c_tokens.specs.declared.kind.Sign.TheVariants as sign
use Rattle.c_grammar.specs.Terminal.{Terminal, Fixed, Mark, Name, Num, Line, Unknown, Unworked, End, same}
use Rattle.c_grammar.specs.Texts.{Item}
use Rattle.c_grammar.specs.Blocks.{Items, is_directive, bare}
use Rattle.c_grammar.specs.Constants.{is_number, is_unworked, is_mark, is_free, const_word, enum_word, Names, const_len, enumerators_len, enum_len, definition_len, with_global, depth_behind, drop_on, leave_on, undefined}
use Rattle.same_text.specs.Laws.{unlined}
use Rattle.same_text.proofs.Unlined.{either, all_unlined, AreUnlined, one, bare_unlined}

-- with that token behind the sign =
value_same : (ns : Names) (t x e : Item Terminal) (u : Terminal) (l c : ℕ) (cs : List ℕ) (s : Item Terminal) (is : Items) →
    const_len ns (unlined t ∷ unlined x ∷ unlined e ∷ record { terminal = u; line = 0; column = c; columns = cs } ∷
    unlined s ∷ all_unlined is)
    ≡ const_len ns (t ∷ x ∷ e ∷ record { terminal = u; line = l; column = c; columns = cs } ∷ s ∷ is)
value_same ns t x e (Num n) l c cs s is = refl
value_same ns t x e (Fixed w) l c cs s is = refl
value_same ns t x e (Mark m) l c cs s is = refl
value_same ns t x e (Name y) l c cs s is = refl
value_same ns t x e (Line ts) l c cs s is = refl
value_same ns t x e Unknown l c cs s is = refl
value_same ns t x e Unworked l c cs s is = refl
value_same ns t x e End l c cs s is = refl

const_same : (ns : Names) (is : Items) → const_len ns (all_unlined is) ≡ const_len ns is
const_same ns [] = refl
const_same ns (t ∷ []) = refl
const_same ns (t ∷ x ∷ []) = refl
const_same ns (t ∷ x ∷ e ∷ []) = refl
const_same ns (t ∷ x ∷ e ∷ n ∷ []) = refl
const_same ns (t ∷ x ∷ e ∷ n ∷ s ∷ is) = value_same ns t x e n.terminal n.line n.column n.columns s is

enumerators_same : (ns : Names) (k : ℕ) (is : Items) → enumerators_len ns k (all_unlined is) ≡ enumerators_len ns k is
enumerators_same ns k [] = refl
enumerators_same ns k (x ∷ []) = refl
enumerators_same ns k (x ∷ e ∷ []) = refl
enumerators_same ns k (x ∷ e ∷ n ∷ []) = refl
enumerators_same ns k (x ∷ e ∷ n ∷ c ∷ []) = refl
enumerators_same ns k (x ∷ e ∷ n ∷ c ∷ s ∷ is) =
    ap
    (λ (o : Option ℕ). cond (is_free ns x.terminal && is_mark sign.Equal e)
    (cond (is_unworked n.terminal) (Some (k + 2))
    (cond (is_number n.terminal && is_mark sign.Comma c) o
    (cond (is_number n.terminal && is_mark sign.CloseBrace c && is_mark sign.Semicolon s) (Some (k + 5)) None)))
    None)
    (enumerators_same ns (k + 4) (s ∷ is))

enum_same : (ns : Names) (is : Items) → enum_len ns (all_unlined is) ≡ enum_len ns is
enum_same ns [] = refl
enum_same ns (o ∷ is) =
    ap (λ (u : Option ℕ). cond (is_mark sign.OpenBrace o) u None) (enumerators_same ns 1 is)

len_same : (ns : Names) (t : Terminal) (is : Items) → definition_len ns t (all_unlined is) ≡ definition_len ns t is
len_same ns t is =
    ap (λ (o : Option ℕ). cond (same const_word t) o (cond (same enum_word t) (enum_len ns (all_unlined is)) None))
    (const_same ns is)
    ∙ ap (λ (o : Option ℕ). cond (same const_word t) (const_len ns is) (cond (same enum_word t) o None)) (enum_same ns is)

abbrev GoesSame : (Names → ℕ → ℕ → Items) → (Names → ℕ → ℕ → Items) → Type 0
GoesSame go' go = (ns : Names) (d k : ℕ) → AreUnlined (go' ns d k) (go ns d k)

global_same : (t : Terminal) (is : Items) (ns : Names) → with_global t (all_unlined is) ns ≡ with_global t is ns
global_same t [] ns = refl
global_same t (i ∷ is) ns = refl

left_same : (ns : Names) (d : ℕ) (i : Item Terminal) (is : Items) (go go' : Names → ℕ → ℕ → Items) → GoesSame go' go →
    AreUnlined (unlined i ∷ go' (with_global i.terminal (all_unlined is) ns) (depth_behind i.terminal d) 0)
    (i ∷ go (with_global i.terminal is ns) (depth_behind i.terminal d) 0)
left_same ns d i is go go' r =
    ap (λ (ms : Names). unlined i ∷ go' ms (depth_behind i.terminal d) 0) (global_same i.terminal is ns)
    ∙ one i _ _ (r (with_global i.terminal is ns) (depth_behind i.terminal d) 0)

drop_same : (ns : Names) (d : ℕ) (i : Item Terminal) (is : Items) (o : Option ℕ) (go go' : Names → ℕ → ℕ → Items) →
    GoesSame go' go → AreUnlined (drop_on ns d (unlined i) (all_unlined is) o go') (drop_on ns d i is o go)
drop_same ns d i is None go go' r = left_same ns d i is go go' r
drop_same ns d i is (Some k) go go' r = either (nat_le d 1) _ _ _ _ _ refl (r ns d k) (left_same ns d i is go go' r)

leave_same : (k : ℕ) (ns : Names) (d : ℕ) (i : Item Terminal) (is : Items) (go go' : Names → ℕ → ℕ → Items) →
    GoesSame go' go → AreUnlined (leave_on k ns d (unlined i) (all_unlined is) go') (leave_on k ns d i is go)
leave_same zero ns d i is go go' r =
    ap (λ (o : Option ℕ). drop_on ns d (unlined i) (all_unlined is) o go') (len_same ns i.terminal is)
    ∙ drop_same ns d i is (definition_len ns i.terminal is) go go' r
leave_same (suc k) ns d i is go go' r = r ns d k

pub undefined_unlined : (is : Items) (ns : Names) (d k : ℕ) →
    AreUnlined (undefined ns d k (all_unlined is)) (undefined ns d k is)
unfolding undefined
undefined_unlined [] ns d k = refl
undefined_unlined (i ∷ is) ns d k = step (is_directive i.terminal) (λ ns d k. undefined_unlined is ns d k)
  where
    step : (b : Bool) → GoesSame (λ ns d k. undefined ns d k (all_unlined is)) (λ ns d k. undefined ns d k is) →
        AreUnlined
        (cond b (unlined i ∷ undefined ns d k (all_unlined is))
        (leave_on k ns d (unlined i) (bare (all_unlined is)) (λ n d k. undefined n d k (all_unlined is))))
        (cond b (i ∷ undefined ns d k is) (leave_on k ns d i (bare is) (λ n d k. undefined n d k is)))
    step true ih = one i (undefined ns d k is) (undefined ns d k (all_unlined is)) (ih ns d k)
    step false ih =
        ap (λ (js : Items). leave_on k ns d (unlined i) js (λ n d k. undefined n d k (all_unlined is))) (bare_unlined is)
        ∙ leave_same k ns d i (bare is) (λ n d k. undefined n d k is) (λ n d k. undefined n d k (all_unlined is)) ih

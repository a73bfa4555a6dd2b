-- Heads of loops in full, and what stands behind ++ at the front.
use Rattle.std.proofs.Common.{◌≡◌, ◌∙◌, ℕ, Bool, true, false, List, [], ◌∷◌, ◌++◌, reverse, Option, Some, None, refl, sym, ap, append_assoc}
use Rattle.std.specs.Prelude.{MatchOption}
use Rattle.std.specs.Option.{option_map}
use Rattle.c_tokens.specs.declared.kind.Sign.{Sign}
use Rattle.c_tokens.specs.declared.kind.Sign.TheVariants as sign
use Rattle.c_grammar.specs.Terminal.{Terminal, Mark}
use Rattle.c_grammar.specs.Texts.{Item}
use Rattle.c_grammar.specs.Blocks.{Items, at}
use Rattle.c_grammar.specs.Changes.{InHead, Outside, Onward, State, Where, assigned, behind_front, closes_head, first_of, in_state, is_mark, is_name_closed, limit_token, limited, one_at}
use Rattle.c_terminals.specs.declared.token.Terminal.{Terminal as Given}
use Rattle.c_terminals.specs.declared.token.Terminal.TheVariants as given
use Rattle.c_terminals.specs.declared.token.Token.{Token}
use Rattle.c_terminals.specs.Seen.{columns_in, item_at, seen, seen_terminal}
use Rattle.c_written.specs.Changes.{passed, stepped}
use Rattle.c_written.proofs.Changing.{reversed_again}

-- ---- limits

no_columns : (t : Given) (o : Option ℕ) → seen_terminal t ≡ limit_token o → columns_in t ≡ []
no_columns (given.Word w) o e = refl
no_columns (given.Sign s) o e = refl
no_columns (given.Name x) o e = refl
no_columns (given.Number n) o e = refl
no_columns given.BadNumber o e = refl
no_columns (given.Line l) None e = absurd cc
no_columns (given.Line l) (Some n) e = absurd cc
no_columns given.Unknown o e = refl
no_columns given.Unworked o e = refl

pub limited_some : (l : Option (Option ℕ)) (r : Option Given) (t : Given) (f : Token) (i : Item Terminal) (is : Items) (n : ℕ) (s : State)
    (go : Onward) → option_map seen_terminal r ≡ option_map limit_token l → r ≡ Some t → seen f ≡ first_of is i →
    limited i is n s l go ≡ at i (Mark sign.Less) ∷ item_at f t ∷ go (in_state (InHead n) []) 1
limited_some l None t f i is n s go e k h = absurd cc
limited_some None (Some u) t f i is n s go e k h = absurd cc
limited_some (Some o) (Some u) t f i is n s go e k h =
    let same : u ≡ t = cc in
    let first : seen_terminal u ≡ limit_token o = cc in
    let limit : seen_terminal t ≡ limit_token o = ap seen_terminal (sym same) ∙ first in
    let put : Item Terminal → Items = λ x. at i (Mark sign.Less) ∷ x ∷ go (in_state (InHead n) []) 1 in
    ap put (ap (λ (j : Item Terminal). at j (limit_token o)) (sym h) ∙ ap (λ (v : Terminal). at (seen f) v) (sym limit)
    ∙ ap (λ (cs : List ℕ). record { terminal = seen_terminal t; line = f.line; column = f.column; columns = cs }) (sym (no_columns t o limit)))

-- ---- steps

pub closes_is : (o : Option Token) (r : Bool) (is js ks : Items) → MatchOption o (is ≡ []) (λ t. is ≡ seen t ∷ js) →
    MatchOption o (r ≡ false) (λ t. r ≡ is_mark sign.CloseParen (seen t)) → is ≡ ks → r ≡ closes_head ks
closes_is None r is js ks e f h = f ∙ ap closes_head (sym e ∙ h)
closes_is (Some t) r is js ks e f h = f ∙ ap closes_head (sym e ∙ h)

abbrev by_one : Item Terminal → Items
by_one i = at i (Mark sign.PlusEqual) ∷ one_at i ∷ []

pub stepped_closed : (i : Item Terminal) (is : Items) (s : State) (go : Onward) → closes_head is ≡ true →
    stepped i is s go ≡ by_one i ++ go s 0
stepped_closed i is s go e = rw e refl

pub stepped_named : (i j : Item Terminal) (is : Items) (s : State) (go : Onward) → closes_head is ≡ false → is_name_closed is ≡ true →
    j ≡ first_of is i → stepped i is s go ≡ j ∷ (by_one i ++ go s 1)
stepped_named i j is s go e h f = rw (e, h) (ap (λ (k : Item Terminal). k ∷ (by_one i ++ go s 1)) (sym f))

-- ---- behind ++ at the front

pub front_ended : (op : Sign) (i : Item Terminal) (p : Where) (xs : Items) (go : Onward) → is_mark sign.Semicolon i ≡ true →
    behind_front op i (in_state p (reverse xs)) go ≡ (assigned i xs op ++ one_at i ∷ []) ++ passed i Outside go
front_ended op i p xs go e =
    rw e (ap (λ (is : Items). assigned i is op ++ (one_at i ∷ passed i Outside go)) (reversed_again xs)
    ∙ sym (append_assoc (assigned i xs op) (one_at i ∷ []) (passed i Outside go)))

-- The tokens with their calls, one token of a slice after another.
use Rattle.std.proofs.Common.{◌≡◌, ◌∙◌, ℕ, ◌-◌, ◌<◌, ◌≤◌, Bool, true, false, length, get_or, take, drop, List, [], ◌∷◌, ◌++◌, Some, None, refl, sym, ap, arith}
use Rattle.std.proofs.lemmas.List.{take_all}
use Rattle.c_grammar.specs.Texts.{Item}
use Rattle.c_grammar.specs.Terminal.{Terminal}
use Rattle.c_grammar.specs.Blocks.{Items, bare, is_directive}
use Rattle.c_grammar.specs.Changes.{is_boundary}
use Rattle.c_grammar.specs.Constants.{Names}
use Rattle.c_grammar.specs.Functions.{Expanded, Functions, called}
use Rattle.c_terminals.specs.declared.token.Token.{Token}
use Rattle.c_terminals.specs.declared.held.Written.{Written}
use Rattle.c_written.specs.Functions.{statement_at}
use Rattle.c_terminals.specs.Held.{seen_written, written_all}
use Rattle.c_terminals.specs.Seen.{seen, seen_all}
use Rattle.c_written.proofs.CallSteps.{called_end, called_expands, called_left, called_line, called_stays}
use Rattle.c_written.proofs.CallTexts.{put_all_front, put_front}

-- what is behind the first token
abbrev pub behind : List Token → List Token
behind ts = take (length ts - 1) (drop 1 ts)

pub begins_with : (ts : List Token) (t : Token) → 1 ≤ length ts → t ≡ get_or ts 0 t →
    seen_all ts ≡ seen t ∷ seen_all (behind ts)
begins_with [] t h e = absurd (omega arith)
begins_with (u ∷ us) t h e =
    let few : length us ≤ length (u ∷ us) - 1 = omega arith in
    ap (λ (v : Token). seen v ∷ seen_all us) (sym e)
    ∙ ap (λ (vs : List Token). seen t ∷ seen_all vs) (sym (take_all (length (u ∷ us) - 1) us few))

bare_first : (i : Item Terminal) (is js : Items) → js ≡ i ∷ is → is_directive i.terminal ≡ false → bare js ≡ i ∷ bare is
bare_first i is js e f = ap bare e ∙ rw f refl

pub line_walk : (g : Names) (fs : Functions) (b : Bool) (r k : ℕ) (ws us : List Written) (w : Written) (ts : List Token)
    (t : Token) → 1 ≤ length ts → t ≡ get_or ts 0 t → is_directive (seen t).terminal ≡ true → us ≡ ws ++ w ∷ [] →
    seen_written w ≡ seen t →
    written_all us ++ called g fs b r k (seen_all (behind ts)) ≡ written_all ws ++ called g fs b r k (seen_all ts)
line_walk g fs b r k ws us w ts t h e d p s =
    sym (put_front ws us w (seen t) (called g fs b r k (seen_all ts)) (called g fs b r k (seen_all (behind ts))) p s
    (ap (called g fs b r k) (begins_with ts t h e) ∙ called_line g fs b r k (seen t) (seen_all (behind ts)) d))

pub left_walk : (g : Names) (fs : Functions) (b : Bool) (r k : ℕ) (ws : List Written) (ts : List Token) (t : Token) →
    1 ≤ length ts → t ≡ get_or ts 0 t → is_directive (seen t).terminal ≡ false → 0 < k →
    written_all ws ++ called g fs b r (k - 1) (seen_all (behind ts)) ≡ written_all ws ++ called g fs b r k (seen_all ts)
left_walk g fs b r k ws ts t h e d f =
    ap (λ (is : Items). written_all ws ++ is)
    (sym (ap (called g fs b r k) (begins_with ts t h e) ∙ called_left g fs b r k (seen t) (seen_all (behind ts)) d f))

pub stays_walk : (g : Names) (fs : Functions) (b : Bool) (r k : ℕ) (ws us : List Written) (w : Written)
    (ts : List Token) (t : Token) → 1 ≤ length ts → t ≡ get_or ts 0 t → is_directive (seen t).terminal ≡ false → k ≤ 0 →
    None ≡ statement_at g fs b r (bare (seen_all ts)) → us ≡ ws ++ w ∷ [] → seen_written w ≡ seen t →
    written_all us ++ called g fs (is_boundary (seen t).terminal) r k (seen_all (behind ts))
    ≡ written_all ws ++ called g fs b r k (seen_all ts)
stays_walk g fs b r k ws us w ts t h e d f n p s =
    let none : k ≡ 0 = omega arith in
    let first = bare_first (seen t) (seen_all (behind ts)) (seen_all ts) (begins_with ts t h e) d in
    sym (put_front ws us w (seen t) (called g fs b r k (seen_all ts))
    (called g fs (is_boundary (seen t).terminal) r k (seen_all (behind ts))) p s
    (ap (called g fs b r k) (begins_with ts t h e)
    ∙ called_stays g fs b r k (seen t) (seen_all (behind ts)) d none (sym (n ∙ ap (statement_at g fs b r) first))
    ∙ ap (λ (n : ℕ). seen t ∷ called g fs (is_boundary (seen t).terminal) r n (seen_all (behind ts))) (sym none)))

pub expands_walk : (g : Names) (fs : Functions) (b : Bool) (r k room left : ℕ) (ws us vs : List Written) (x : Expanded)
    (ts : List Token) (t : Token) → 1 ≤ length ts → t ≡ get_or ts 0 t → is_directive (seen t).terminal ≡ false → k ≤ 0 →
    Some x ≡ statement_at g fs b r (bare (seen_all ts)) → x.items ≡ written_all vs → us ≡ ws ++ vs →
    room ≡ r - length (bare (written_all vs)) → left ≡ x.len - 1 →
    written_all us ++ called g fs true room left (seen_all (behind ts))
    ≡ written_all ws ++ called g fs b r k (seen_all ts)
expands_walk g fs b r k room left ws us vs x ts t h e d f n i p q l =
    let none : k ≡ 0 = omega arith in
    let first = bare_first (seen t) (seen_all (behind ts)) (seen_all ts) (begins_with ts t h e) d in
    sym (put_all_front ws us vs (called g fs b r k (seen_all ts)) (called g fs true room left (seen_all (behind ts))) p
    (ap (called g fs b r k) (begins_with ts t h e)
    ∙ called_expands g fs b r k (seen t) (seen_all (behind ts)) x d none (sym (n ∙ ap (statement_at g fs b r) first))
    ∙ ap (λ (is : Items). is ++ called g fs true (r - length (bare is)) (x.len - 1) (seen_all (behind ts))) i
    ∙ ap (λ (n : ℕ). written_all vs ++ called g fs true n (x.len - 1) (seen_all (behind ts))) (sym q)
    ∙ ap (λ (n : ℕ). written_all vs ++ called g fs true room n (seen_all (behind ts))) (sym l)))

pub called_none : (g : Names) (fs : Functions) (b : Bool) (r k : ℕ) (ts : List Token) → length ts < 1 →
    called g fs b r k (seen_all ts) ≡ []
called_none g fs b r k [] h = called_end g fs b r k
called_none g fs b r k (t ∷ ts) h = absurd (omega arith)

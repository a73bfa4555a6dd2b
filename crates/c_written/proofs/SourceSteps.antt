-- What is written in the end, one token after another.
use Rattle.std.proofs.Common.{◌≡◌, ◌∙◌, ℕ, ◌-◌, ◌<◌, ◌≤◌, Bool, true, false, length, List, [], ◌∷◌, ◌++◌, Vec, Global, refl, sym, ap, arith}
use Rattle.std.specs.Prelude.{◌&&◌}
use Rattle.c_grammar.specs.Lexeme.{Int}
use Rattle.c_grammar.specs.Terminal.{Terminal, Fixed, same}
use Rattle.c_grammar.specs.Texts.{Item}
use Rattle.c_grammar.specs.Blocks.{Items, bare, is_directive}
use Rattle.c_grammar.specs.Functions.{InBody, InHead, Onward, called, defined, in_body, is_main, line_in, main_follows, outside, raw_in, token_in}
use Rattle.c_written.specs.declared.functions.Place.{Place}
use Rattle.c_written.specs.declared.functions.Place.TheVariants as places
use Rattle.c_written.specs.declared.functions.Source.{Source}
use Rattle.c_written.specs.declared.heads.Headed.{Headed}
use Rattle.c_terminals.specs.declared.token.Token.{Token}
use Rattle.c_written.specs.Functions.{functions_of, globals_of, is_outside, known_in, place_in, seen_headed, with_source}
use Rattle.c_terminals.specs.Held.{written_all}
use Rattle.c_terminals.specs.Seen.{seen_all}
use Rattle.c_written.proofs.Sourcing.{defined_end, defined_line, defined_main, defined_token, head_on, head_over, main_at}

-- from one source with its place to another one, by what a token does
abbrev pub Leads : Source → Source → Place → (Onward → Items) → Type 0
Leads s u q f = (go : Onward) → written_all s.done.items ++ f go ≡ written_all u.done.items ++ go (known_in u) (place_in u q)

pub line_to : (s u : Source) (p q : Place) (i : Item Terminal) (is : Items) → is_directive i.terminal ≡ true →
    Leads s u q (λ go. line_in (known_in s) (place_in s p) i go) → with_source s p (i ∷ is) ≡ with_source u q is
line_to s u p q i is a f =
    ap (λ (js : Items). written_all s.done.items ++ js) (defined_line (known_in s) (place_in s p) i is a)
    ∙ f (λ k p. defined k p is)

pub token_to : (s u : Source) (p q : Place) (i : Item Terminal) (is : Items) → is_directive i.terminal ≡ false →
    is_main (place_in s p) i (bare is) ≡ false → Leads s u q (λ go. token_in (known_in s) (place_in s p) i (bare is) go) →
    with_source s p (i ∷ is) ≡ with_source u q is
token_to s u p q i is a b f =
    ap (λ (js : Items). written_all s.done.items ++ js) (defined_token (known_in s) (place_in s p) i is a b)
    ∙ f (λ k p. defined k p is)

main_of : (s : Source) (p o : Place) (i : Item Terminal) (is : Items) → p ≡ o → is_main (place_in s p) i is ≡ false →
    is_main (place_in s o) i is ≡ false
main_of s p o i is e b = ap (λ (q : Place). is_main (place_in s q) i is) (sym e) ∙ b

pub outside_to : (s u : Source) (p q : Place) (begins : Bool) (i : Item Terminal) (is : Items) → p ≡ places.Outside begins →
    is_directive i.terminal ≡ false → is_main (place_in s p) i (bare is) ≡ false →
    Leads s u q (λ go. outside (known_in s) begins i (bare is) go) → with_source s p (i ∷ is) ≡ with_source u q is
outside_to s u p q begins i is e a b f =
    ap (λ (o : Place). with_source s o (i ∷ is)) e
    ∙ token_to s u (places.Outside begins) q i is a (main_of s p (places.Outside begins) i (bare is) e b) f

pub body_to : (s u : Source) (p q : Place) (h : Headed) (d l : ℕ) (i : Item Terminal) (is raw : Items) → p ≡ places.InBody h d l →
    is_directive i.terminal ≡ false → is_main (place_in s p) i (bare is) ≡ false → raw ≡ seen_all s.raw.items ++ i ∷ [] →
    Leads s u q (λ go. in_body (known_in s) (seen_headed h) raw (seen_all s.body.items) d i go) →
    with_source s p (i ∷ is) ≡ with_source u q is
body_to s u p q h d l i is raw e a b r f =
    ap (λ (o : Place). with_source s o (i ∷ is)) e
    ∙ token_to s u (places.InBody h d l) q i is a (main_of s p (places.InBody h d l) i (bare is) e b)
    (λ go. ap (λ (js : Items). written_all s.done.items ++ in_body (known_in s) (seen_headed h) js (seen_all s.body.items) d i go)
    (sym r) ∙ f go)

-- ---- in a head

abbrev pub with_tokens : Source → Vec Token Global → Vec Token Global → Source
with_tokens s raw body =
    record { done = s.done; scope = s.scope; next = s.next; room = s.room; raw = raw; body = body }

pub head_to : (s : Source) (raw : Vec Token Global) (p : Place) (h : Headed) (n : ℕ) (i : Item Terminal) (is : Items) →
    p ≡ places.InHead h n → is_directive i.terminal ≡ false → is_main (place_in s p) i (bare is) ≡ false →
    seen_all raw.items ≡ seen_all s.raw.items ++ i ∷ [] → 1 < n →
    with_source s p (i ∷ is) ≡ with_source (with_tokens s raw s.body) (places.InHead h (n - 1)) is
head_to s raw p h n i is e a b r l =
    ap (λ (o : Place). with_source s o (i ∷ is)) e
    ∙ token_to s (with_tokens s raw s.body) (places.InHead h n) (places.InHead h (n - 1)) i is a
    (main_of s p (places.InHead h n) i (bare is) e b)
    (λ go. ap (λ (js : Items). written_all s.done.items ++ js)
    (head_on (known_in s) (seen_headed h) (seen_all s.raw.items ++ i ∷ []) n go l
    ∙ ap (λ (js : Items). go (known_in s) (InHead (seen_headed h) js (n - 1))) (sym r)))

pub head_to_body : (s : Source) (raw body : Vec Token Global) (p : Place) (h : Headed) (n : ℕ) (i : Item Terminal) (is : Items) →
    p ≡ places.InHead h n → is_directive i.terminal ≡ false → is_main (place_in s p) i (bare is) ≡ false →
    seen_all raw.items ≡ seen_all s.raw.items ++ i ∷ [] → seen_all body.items ≡ [] → n ≤ 1 →
    with_source s p (i ∷ is) ≡ with_source (with_tokens s raw body) (places.InBody h 0 0) is
head_to_body s raw body p h n i is e a b r f l =
    ap (λ (o : Place). with_source s o (i ∷ is)) e
    ∙ token_to s (with_tokens s raw body) (places.InHead h n) (places.InBody h 0 0) i is a
    (main_of s p (places.InHead h n) i (bare is) e b)
    (λ go. ap (λ (js : Items). written_all s.done.items ++ js)
    (head_over (known_in s) (seen_headed h) (seen_all s.raw.items ++ i ∷ []) n go l
    ∙ ap (λ (js : Items). go (known_in s) (InBody (seen_headed h) js [] 0 0)) (sym r)
    ∙ ap (λ (js : Items). go (known_in s) (InBody (seen_headed h) (seen_all raw.items) js 0 0)) (sym f)))

-- ---- main, and the end

pub main_to : (s : Source) (p : Place) (i : Item Terminal) (is js : Items) (b : Bool) → is_directive i.terminal ≡ false →
    b ≡ (is_outside p && (same (Fixed Int) i.terminal && main_follows (bare is))) → b ≡ true →
    js ≡ written_all s.done.items ++ (i ∷ called (globals_of s.scope) (functions_of s.scope) false s.room 0 is) →
    js ≡ with_source s p (i ∷ is)
main_to s p i is js b a m t f =
    f ∙ ap (λ (ks : Items). written_all s.done.items ++ ks)
    (sym (defined_main (known_in s) (place_in s p) i is a (main_at s p i (bare is) ∙ sym m ∙ t)))

pub end_to : (s : Source) (p : Place) (is js : Items) → is ≡ [] → js ≡ written_all s.done.items ++ raw_in (place_in s p) →
    js ≡ with_source s p is
end_to s p is js e f =
    f ∙ ap (λ (ks : Items). written_all s.done.items ++ ks)
    (sym (ap (defined (known_in s) (place_in s p)) e ∙ defined_end (known_in s) (place_in s p)))

pub none_left : (ts : List Token) → length ts < 1 → seen_all ts ≡ []
none_left [] e = refl
none_left (t ∷ ts) e = absurd (omega (arith, e))

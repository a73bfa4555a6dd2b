-- One token after another, with the arrays that main allocates.
use Rattle.std.proofs.Common.{◌≡◌, ◌∙◌, ◌<◌, List, [], ◌∷◌, ◌++◌, length, map, reverse, Result, refl, sym, ap, append_assoc, arith}
use Rattle.std.proofs.lemmas.List.{reverse-reverse}
use Rattle.std.specs.Prelude.{OnOk}
use Rattle.c_grammar.specs.Terminal.{Terminal}
use Rattle.c_grammar.specs.Texts.{Item}
use Rattle.c_grammar.specs.Blocks.{Items}
use Rattle.c_grammar.specs.Allocations.{Reading, all_read, joined, next, nothing_read}
use Rattle.c_terminals.specs.declared.token.Token.{Token}
use Rattle.c_written.specs.declared.allocated.Allocations.{Allocations}
use Rattle.c_written.specs.Allocations.{reading_of, with_allocations}
use Rattle.c_terminals.specs.Seen.{seen, seen_all}
use Rattle.c_written.proofs.Blocking.{on_ok}
use Rattle.c_terminals.proofs.Lists.{seen_more}

pub same_reading : (q r : Reading) → q.before ≡ r.before → q.arrays ≡ r.arrays → q.done ≡ r.done → q.inside ≡ r.inside →
    q.depth ≡ r.depth → q.starts ≡ r.starts → q.out ≡ r.out → q.names ≡ r.names → q ≡ r
same_reading q r a b c d e f g h = λ k. record {
  before = a k;
  arrays = b k;
  done = c k;
  inside = d k;
  depth = e k;
  starts = f k;
  out = g k;
  names = h k;
}

pub seen_both : (ts us : List Token) → seen_all (ts ++ us) ≡ seen_all ts ++ seen_all us
seen_both [] us = refl
seen_both (t ∷ ts) us = ap (λ (is : Items). seen t ∷ is) (seen_both ts us)

-- a token is pushed
pub seen_pushed : (ts us : List Token) (t : Token) → us ≡ ts ++ t ∷ [] → seen_all us ≡ seen_all ts ++ seen t ∷ []
seen_pushed ts us t e = ap seen_all e ∙ seen_more ts t

pub read_end : (r : Reading) → all_read r [] ≡ r
unfolding all_read
read_end r = refl

pub read_more : (r : Reading) (i : Item Terminal) (is : Items) → all_read r (i ∷ is) ≡ all_read (next i is r) is
unfolding all_read
read_more r i is = refl

pub allocations_taken : {X Y : Type 0} (res : Result X Y) (old new : Allocations) (i : Item Terminal) (is : Items) →
    OnOk res (reading_of new ≡ next i is (reading_of old)) → OnOk res (with_allocations old (i ∷ is) ≡ with_allocations new is)
allocations_taken res old new i is h =
    on_ok res (reading_of new ≡ next i is (reading_of old)) (with_allocations old (i ∷ is) ≡ with_allocations new is)
    (λ e. read_more (reading_of old) i is ∙ ap (λ (r : Reading). all_read r is) (sym e)) h

pub all_joined : (a : Allocations) (rest vs ws : List Token) (is : Items) → length rest < 1 →
    with_allocations a (seen_all rest) ≡ all_read nothing_read is → vs ≡ a.before.items ++ a.arrays.items →
    ws ≡ vs ++ a.done.items → seen_all ws ≡ joined (all_read nothing_read is)
all_joined a [] vs ws is h e f g =
    ap seen_all (g ∙ ap (λ (ts : List Token). ts ++ a.done.items) f ∙ append_assoc a.before.items a.arrays.items a.done.items)
    ∙ seen_both a.before.items (a.arrays.items ++ a.done.items)
    ∙ ap (λ (js : Items). seen_all a.before.items ++ js) (seen_both a.arrays.items a.done.items)
    ∙ ap joined (sym (read_end (reading_of a)) ∙ e)
all_joined a (t ∷ ts) vs ws is h e f g = absurd (omega arith)

pub all_named : (a : Allocations) (rest : List Token) (is : Items) → length rest < 1 → with_allocations a (seen_all rest) ≡ all_read nothing_read is →
    map (λ x. x.now) a.names.items ≡ reverse (all_read nothing_read is).names
all_named a [] is h e =
    sym (reverse-reverse (map (λ x. x.now) a.names.items))
    ∙ ap (λ (r : Reading). reverse r.names) (sym (read_end (reading_of a)) ∙ e)
all_named a (t ∷ ts) is h e = absurd (omega arith)

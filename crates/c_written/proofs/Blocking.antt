-- The braces and types that are put in, one token after another.
use Rattle.std.proofs.Common.{◌≡◌, ◌∙◌, ℕ, suc, ◌+◌, Bool, true, false, cond, List, [], ◌∷◌, ◌++◌, map, take, Option, Some, None, refl, sym, ap, append_assoc, arith}
use Rattle.std.specs.Prelude.{not, ◌==◌, ◌&&◌, ◌||◌, MatchOption, OnOk, Result, Ok, Err}
use Rattle.c_tokens.specs.declared.kind.Sign.TheVariants as sign
use Rattle.c_grammar.specs.Lexeme.{Uint64}
use Rattle.c_grammar.specs.Terminal.{Terminal, Fixed, Mark, same}
use Rattle.c_grammar.specs.Texts.{Item}
use Rattle.c_grammar.specs.Blocks.{Items, Open, Head, Block as SpecBlock, First, Around as SpecAround, Ends, Reading, is_directive, bare, at, braces_at, ends, in_block, in_blocks, in_head, is_headless, is_end, is_else, is_name, begins_body, left, line_in_block, noted, parted, plain, closed, opened, otherwise, read_in, with_open}
use Rattle.c_written.specs.declared.blocks.Open.{Open as GivenOpen}
use Rattle.c_written.specs.declared.blocks.Open.TheVariants as opens
use Rattle.c_written.specs.Stack.{item_at}
use Rattle.c_written.specs.Opens.{is_around, is_first, is_first_branch, is_head, stays}
use Rattle.c_written.specs.Passes.{seen_open}

pub blocks_end : (r : Reading) → in_blocks r [] ≡ []
unfolding in_blocks
blocks_end r = refl

pub blocks_line : (r : Reading) (i : Item Terminal) (is : Items) → is_directive i.terminal ≡ true →
    in_blocks r (i ∷ is) ≡ line_in_block i (bare is) r (λ r. in_blocks r is)
unfolding in_blocks
blocks_line r i is e = rw e refl

pub blocks_other : (r : Reading) (i : Item Terminal) (is : Items) → is_directive i.terminal ≡ false →
    in_blocks r (i ∷ is) ≡ in_block i (bare is) r (λ r. in_blocks r is)
unfolding in_blocks
blocks_other r i is e = rw e refl

-- ---- what is open

by_open : (os : List Open) (y : GivenOpen) → is_headless (seen_open y ∷ os) ≡ not (is_head y)
by_open os (opens.Head c n) = refl
by_open os opens.Block = refl
by_open os opens.First = refl
by_open os opens.Around = refl

pub headless_first : (os : List GivenOpen) (o : GivenOpen) → item_at 0 os ≡ Some o → is_head o ≡ false →
    is_headless (map seen_open os) ≡ true
headless_first [] o e h = absurd cc
headless_first (x ∷ xs) o e h =
    let same : x ≡ o = cc in
    by_open (map seen_open xs) x ∙ ap (λ (y : GivenOpen). not (is_head y)) same ∙ ap not h

pub headless_none : (os : List GivenOpen) → item_at 0 os ≡ None → is_headless (map seen_open os) ≡ true
headless_none [] e = refl
headless_none (x ∷ xs) e = absurd cc

pub head_first : (os : List GivenOpen) (c : Bool) (n : ℕ) → item_at 0 os ≡ Some (opens.Head c n) →
    is_headless (map seen_open os) ≡ false
head_first [] c n e = absurd cc
head_first (x ∷ xs) c n e =
    let same : x ≡ opens.Head c n = cc in by_open (map seen_open xs) x ∙ ap (λ (y : GivenOpen). not (is_head y)) same

first_by : (os : List Open) (y : GivenOpen) → is_first_branch (seen_open y ∷ os) ≡ is_first y
first_by os (opens.Head c n) = refl
first_by os opens.Block = refl
first_by os opens.First = refl
first_by os opens.Around = refl

pub first_first : (os : List GivenOpen) (o : GivenOpen) → item_at 0 os ≡ Some o →
    is_first_branch (map seen_open os) ≡ is_first o
first_first [] o e = absurd cc
first_first (x ∷ xs) o e = let same : x ≡ o = cc in first_by (map seen_open xs) x ∙ ap is_first same

pub first_none : (os : List GivenOpen) → item_at 0 os ≡ None → is_first_branch (map seen_open os) ≡ false
first_none [] e = refl
first_none (x ∷ xs) e = absurd cc

pub otherwise_not : (os : List Open) (r : Reading) → is_first_branch os ≡ false → otherwise os r ≡ with_open os false r
otherwise_not [] r e = refl
otherwise_not (First ∷ os) r e = absurd cc
otherwise_not (Head c n ∷ os) r e = refl
otherwise_not (SpecBlock ∷ os) r e = refl
otherwise_not (SpecAround ∷ os) r e = refl

pub otherwise_popped : (o : Option GivenOpen) (os us : List GivenOpen) (r : Reading) →
    MatchOption o ((os ≡ []) × (us ≡ [])) (λ y. os ≡ y ∷ us) → is_first_branch (map seen_open os) ≡ true →
    otherwise (map seen_open os) r ≡ with_open (map seen_open us) true r
otherwise_popped None os us r h e =
    absurd (let none : is_first_branch [] ≡ true = ap (λ (xs : List GivenOpen). is_first_branch (map seen_open xs)) (sym h.0) ∙ e in cc)
otherwise_popped (Some y) os us r h e =
    ap (λ (xs : List GivenOpen). otherwise (map seen_open xs) r) h
    ∙ go y (ap (λ (xs : List GivenOpen). is_first_branch (map seen_open xs)) (sym h) ∙ e)
  where
    go : (y : GivenOpen) → is_first_branch (seen_open y ∷ map seen_open us) ≡ true →
        otherwise (seen_open y ∷ map seen_open us) r ≡ with_open (map seen_open us) true r
    go opens.First e = refl
    go (opens.Head c n) e = absurd cc
    go opens.Block e = absurd cc
    go opens.Around e = absurd cc

-- ---- a token of a head, or of none

pub read_open : (os : List Open) (t : Terminal) (r : Reading) → is_headless os ≡ true → read_in os t r ≡ opened os t r
read_open [] t r e = refl
read_open (Head c n ∷ os) t r e = absurd cc
read_open (First ∷ os) t r e = refl
read_open (SpecBlock ∷ os) t r e = refl
read_open (SpecAround ∷ os) t r e = refl

pub read_head : (os : List GivenOpen) (c : Bool) (n : ℕ) (t : Terminal) (r s : Reading) →
    item_at 0 os ≡ Some (opens.Head c n) →
    ((ls : List Open) → map seen_open os ≡ Head c n ∷ ls → s ≡ in_head c n ls t r) → s ≡ read_in (map seen_open os) t r
read_head [] c n t r s e h = absurd cc
read_head (x ∷ xs) c n t r s e h =
    let same : x ≡ opens.Head c n = cc in
    let first : seen_open x ≡ Head c n = ap seen_open same in
    h (map seen_open xs) (ap (λ (o : Open). o ∷ map seen_open xs) first)
    ∙ ap (λ (o : Open). read_in (o ∷ map seen_open xs) t r) (sym first)

-- ---- braces that end with a statement

abbrev no_more : List Open → Ends
no_more os = record { braces = 0; levels = os }

stay_by : (other : Bool) (y : GivenOpen) (os : List Open) → stays other y ≡ true →
    ends other (seen_open y ∷ os) ≡ no_more (seen_open y ∷ os)
stay_by other (opens.Head c n) os e = refl
stay_by other opens.Block os e = refl
stay_by true opens.First os e = refl
stay_by false opens.First os e = absurd cc
stay_by other opens.Around os e = absurd cc

pub ends_stay : (other : Bool) (os : List GivenOpen) (o : GivenOpen) → item_at 0 os ≡ Some o → stays other o ≡ true →
    ends other (map seen_open os) ≡ no_more (map seen_open os)
ends_stay other [] o e h = absurd cc
ends_stay other (x ∷ xs) o e h =
    let same : x ≡ o = cc in stay_by other x (map seen_open xs) (ap (stays other) same ∙ h)

pub ends_none : (other : Bool) (os : List GivenOpen) → item_at 0 os ≡ None →
    ends other (map seen_open os) ≡ no_more (map seen_open os)
ends_none other [] e = refl
ends_none other (x ∷ xs) e = absurd cc

abbrev brace : Bool → Item Terminal → Items
brace b i = cond b (at i (Mark sign.CloseBrace) ∷ []) []

braces_more : (n : ℕ) (i : Item Terminal) → braces_at (n + 1) i ≡ at i (Mark sign.CloseBrace) ∷ braces_at n i
braces_more n i = ap (λ (m : ℕ). braces_at m i) (let one : n + 1 ≡ suc n = omega arith in one)

go_by : (other : Bool) (y : GivenOpen) (us : List Open) (i : Item Terminal) → stays other y ≡ false →
    braces_at (ends other (seen_open y ∷ us)).braces i ≡ brace (is_around y) i ++ braces_at (ends other us).braces i
go_by other (opens.Head c n) us i e = absurd cc
go_by other opens.Block us i e = absurd cc
go_by true opens.First us i e = absurd cc
go_by false opens.First us i e = refl
go_by other opens.Around us i e = braces_more (ends other us).braces i

-- what is closed has written its brace
pub ends_go : (other : Bool) (y : GivenOpen) (os us : List GivenOpen) (i : Item Terminal) (ds es : Items) →
    os ≡ y ∷ us → stays other y ≡ false → es ≡ ds ++ brace (is_around y) i →
    es ++ braces_at (ends other (map seen_open us)).braces i ≡ ds ++ braces_at (ends other (map seen_open os)).braces i
ends_go other y os us i ds es e h f =
    ap (λ (is : Items). is ++ braces_at (ends other (map seen_open us)).braces i) f
    ∙ append_assoc ds (brace (is_around y) i) (braces_at (ends other (map seen_open us)).braces i)
    ∙ ap (λ (is : Items). ds ++ is) (sym (go_by other y (map seen_open us) i h))
    ∙ ap (λ (xs : List GivenOpen). ds ++ braces_at (ends other (map seen_open xs)).braces i) (sym e)

levels_by : (other : Bool) (y : GivenOpen) (us : List Open) → stays other y ≡ false →
    (ends other us).levels ≡ (ends other (seen_open y ∷ us)).levels
levels_by other (opens.Head c n) us e = absurd cc
levels_by other opens.Block us e = absurd cc
levels_by true opens.First us e = absurd cc
levels_by false opens.First us e = refl
levels_by other opens.Around us e = refl

pub ends_levels : (other : Bool) (y : GivenOpen) (os us : List GivenOpen) → os ≡ y ∷ us → stays other y ≡ false →
    (ends other (map seen_open us)).levels ≡ (ends other (map seen_open os)).levels
ends_levels other y os us e h = levels_by other y (map seen_open us) h
    ∙ ap (λ (xs : List GivenOpen). (ends other (map seen_open xs)).levels) (sym e)

-- ---- a token by itself

pub end_headless : (os : List Open) (t : Terminal) → is_headless os ≡ true →
    is_end os t ≡ (same (Mark sign.Semicolon) t || same (Mark sign.CloseBrace) t)
end_headless [] t e = refl
end_headless (Head c n ∷ os) t e = absurd cc
end_headless (First ∷ os) t e = refl
end_headless (SpecBlock ∷ os) t e = refl
end_headless (SpecAround ∷ os) t e = refl

pub end_in_head : (os : List Open) (t : Terminal) → is_headless os ≡ false → is_end os t ≡ false
end_in_head [] t e = absurd cc
end_in_head (Head c n ∷ os) t e = refl
end_in_head (First ∷ os) t e = absurd cc
end_in_head (SpecBlock ∷ os) t e = absurd cc
end_in_head (SpecAround ∷ os) t e = absurd cc

pub plain_ends : (i : Item Terminal) (other : Bool) (r : Reading) (go : Reading → Items) → is_end r.levels i.terminal ≡ true →
    plain i other r go ≡ closed (ends other (left r.levels i.terminal)) i (noted i.terminal r) go
plain_ends i other r go e = rw e refl

pub plain_reads : (i : Item Terminal) (other : Bool) (r : Reading) (go : Reading → Items) → is_end r.levels i.terminal ≡ false →
    plain i other r go ≡ i ∷ go (read_in r.levels i.terminal (noted i.terminal r))
plain_reads i other r go e = rw e refl

pub on_ok : {X Y : Type 0} (res : Result X Y) (P Q : Type 0) → (P → Q) → OnOk res P → OnOk res Q
on_ok (Ok x) P Q f h = f h
on_ok (Err e) P Q f h = tt

-- a token is written, and the braces behind it
pub gone_end : {X Y : Type 0} (res : Result X Y) (ds es fs : Items) (i : Item Terminal) (other : Bool) (r n s : Reading) →
    is_end r.levels i.terminal ≡ true → es ≡ ds ++ i ∷ [] → n ≡ noted i.terminal r →
    OnOk res (fs ≡ es ++ braces_at (ends other (left n.levels i.terminal)).braces i) →
    OnOk res (s ≡ with_open (ends other (left n.levels i.terminal)).levels false n) →
    OnOk res ((go : Reading → Items) → ds ++ plain i other r go ≡ fs ++ go s)
gone_end (Err x) ds es fs i other r n s e f g a b = tt
gone_end (Ok x) ds es fs i other r n s e f g a b =
    let braces : Reading → Items = λ m. braces_at (ends other (left m.levels i.terminal)).braces i in
    let behind : Reading → Reading = λ m. with_open (ends other (left m.levels i.terminal)).levels false m in
    let m : Reading = noted i.terminal r in
    λ go. ap (λ (is : Items). ds ++ is) (plain_ends i other r go e)
    ∙ sym (ap (λ (js : Items). js ++ go s) a
    ∙ ap (λ (k : Reading). (es ++ braces k) ++ go s) g
    ∙ ap (λ (js : Items). (js ++ braces m) ++ go s) f
    ∙ ap (λ (u : Reading). ((ds ++ i ∷ []) ++ braces m) ++ go u) b
    ∙ ap (λ (k : Reading). ((ds ++ i ∷ []) ++ braces m) ++ go (behind k)) g
    ∙ append_assoc (ds ++ i ∷ []) (braces m) (go (behind m))
    ∙ append_assoc ds (i ∷ []) (braces m ++ go (behind m)))

-- a token is written
pub gone_read : {X Y : Type 0} (res : Result X Y) (ds es fs : Items) (i : Item Terminal) (other : Bool) (r n s : Reading) →
    is_end r.levels i.terminal ≡ false → es ≡ ds ++ i ∷ [] → n ≡ noted i.terminal r → OnOk res (fs ≡ es) →
    OnOk res (s ≡ read_in n.levels i.terminal n) →
    OnOk res ((go : Reading → Items) → ds ++ plain i other r go ≡ fs ++ go s)
gone_read (Err x) ds es fs i other r n s e f g a b = tt
gone_read (Ok x) ds es fs i other r n s e f g a b =
    let m : Reading = noted i.terminal r in
    λ go. ap (λ (is : Items). ds ++ is) (plain_reads i other r go e)
    ∙ sym (ap (λ (js : Items). js ++ go s) (a ∙ f)
    ∙ ap (λ (u : Reading). (ds ++ i ∷ []) ++ go u) b
    ∙ ap (λ (k : Reading). (ds ++ i ∷ []) ++ go (read_in k.levels i.terminal k)) g
    ∙ append_assoc ds (i ∷ []) (go (read_in m.levels i.terminal m)))

-- ---- what comes next

pub line_next : (i : Item Terminal) (is js : Items) (r : Reading) (go : Reading → Items) → js ≡ take 1 is →
    line_in_block i is r go ≡ line_in_block i js r go
line_next i is js r go e = go_on is ∙ ap (λ (ks : Items). line_in_block i ks r go) (sym e)
  where
    go_on : (is : Items) → line_in_block i is r go ≡ line_in_block i (take 1 is) r go
    go_on [] = refl
    go_on (k ∷ ks) = refl

pub else_next : (is js : Items) → js ≡ take 1 is → is_else is ≡ is_else js
else_next [] js e = ap is_else (sym e)
else_next (i ∷ is) js e = ap is_else (sym e)

pub name_next : (is js : Items) → js ≡ take 1 is → is_name is ≡ is_name js
name_next [] js e = ap is_name (sym e)
name_next (i ∷ is) js e = ap is_name (sym e)

-- ---- all tokens

pub begins_is : (i : Item Terminal) (is js : Items) (r : Reading) (go : Reading → Items) → js ≡ take 1 is →
    (r.body && begins_body i.terminal) ≡ true →
    in_block i is r go ≡ at i (Mark sign.OpenBrace) ∷ plain i (is_else js) (with_open (SpecAround ∷ r.levels) false r) go
begins_is i is js r go f e = rw (e, else_next is js f) refl

pub begins_not : (i : Item Terminal) (is : Items) (r : Reading) (go : Reading → Items) →
    (r.body && begins_body i.terminal) ≡ false → in_block i is r go ≡ parted i is (with_open r.levels false r) go
begins_not i is r go e = rw e refl

pub parted_is : (i : Item Terminal) (is js : Items) (r : Reading) (go : Reading → Items) → js ≡ take 1 is →
    (r.declares && (r.brackets == 0) && same (Mark sign.Comma) i.terminal && is_name js) ≡ true →
    parted i is r go ≡ at i (Mark sign.Semicolon) ∷ at i (Fixed Uint64) ∷ go r
parted_is i is js r go f e = rw (name_next is js f, e) refl

pub parted_not : (i : Item Terminal) (is js : Items) (r : Reading) (go : Reading → Items) → js ≡ take 1 is →
    (r.declares && (r.brackets == 0) && same (Mark sign.Comma) i.terminal && is_name js) ≡ false →
    parted i is r go ≡ plain i (is_else js) r go
parted_not i is js r go f e = rw (name_next is js f, e, else_next is js f) refl

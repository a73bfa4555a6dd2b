-- Tokens that keep the rules keep them where nothing is inside a target.
use Rattle.std.proofs.Common.{◌≡◌, ℕ, zero, suc, ◌≤◌, Bool, true, false, cond, [], ◌∷◌, ◌++◌, refl, sym, ap, subst, ◌∙◌, append_assoc}
use Rattle.std.specs.Prelude.{◌||◌}
use Rattle.base.specs.declared.fault.ReadCode.{ReadCode as Code}
use Rattle.base.specs.declared.fault.ReadCode.TheVariants.{UnknownByte, Unexpected, Undeclared, AlreadyDeclared, BadNumber, BadLength, LoopNameAssigned, BadOperand, TooDeep, TooMany, UnknownDirective, UnknownClause, ClauseCount, BadMapType, BadBound, ArrayTwice, DirectiveInTarget, OuterAssigned, HostOnly, NoBody, DirectiveUnderIf, BadDevice}
use Rattle.c_grammar.specs.Terminal.{Terminal, Fixed, Mark, Name, Num, Line, Unknown, Unworked, End}
use Rattle.c_grammar.specs.Grammar.{Act, Plain, DeclaresGlobal, DeclaresLocal, DeclaresLoop, MakesArray, MakesScalar, Length, Limit, Step, Starts, StartsIf, Prints, Assigned, StartsBlock, Otherwise, Reads, Opens, Closes, Alone, Over, Marks, Boxes, Operand, OpensBracket, ClosesBracket, Divisor, Count, Inner, Slot, Slots}
use Rattle.c_grammar.specs.Rules.{Context, begin, act, enter, breaks, breaks_act, breaks_part, misuses, wrong_token, Rule, source_grammar}
use Rattle.c_grammar.specs.Texts.{KeepsRules, enter_all, next_slot}
use Rattle.erasure.proofs.Contexts.{is_line_terminal, plain, Follows, plain_breaks, plain_enter}

abbrev pub entered : Context → Slots → Context
entered c xs = enter_all source_grammar c xs

abbrev pub next_in : Slots → Terminal → Terminal
next_in xs n = next_slot source_grammar xs n

-- no rule is broken at these tokens, which stand in this context and before this token
abbrev pub Keeps : Context → Slots → Terminal → Type 0
Keeps c [] n = Unit {0}
Keeps c (x ∷ xs) n = ((r : Rule) → breaks r c x (next_in xs n) ≡ false) × Keeps (enter c x) xs n

pub keeps_at : (xs front : Slots) (rest : Slots) → KeepsRules source_grammar xs → xs ≡ front ++ rest →
    Keeps (entered begin front) rest End
keeps_at xs front [] k e = tt
keeps_at xs front (x ∷ rest) k e =
    let more : xs ≡ (front ++ x ∷ []) ++ rest = e ∙ sym (append_assoc front (x ∷ []) rest) in (
      λ r. k front x rest r e,
      subst (λ (c : Context). Keeps c rest End) (entered_more begin front x) (keeps_at xs (front ++ x ∷ []) rest k more),
    )
  where
    entered_more : (c : Context) (front : Slots) (x : Slot) → entered c (front ++ x ∷ []) ≡ enter (entered c front) x
    entered_more c [] x = refl
    entered_more c (y ∷ front) x = entered_more (enter c y) front x

pub keeps_all : (c : Context) (xs front : Slots) (x : Slot) (more : Slots) (r : Rule) → Keeps c xs End → xs ≡ front ++ (x ∷ more) →
    breaks r (entered c front) x (next_in more End) ≡ false
keeps_all c xs [] x more r k e = (subst (λ (ys : Slots). Keeps c ys End) e k).0 r
keeps_all c xs (y ∷ front) x more r k e =
    keeps_all (enter c y) (front ++ (x ∷ more)) front x more r (subst (λ (ys : Slots). Keeps c ys End) e k).1 refl

-- ---- parts of a text

pub entered_append : (c : Context) (xs ys : Slots) → entered c (xs ++ ys) ≡ entered (entered c xs) ys
entered_append c [] ys = refl
entered_append c (x ∷ xs) ys = entered_append (enter c x) xs ys

next_append : (xs ys : Slots) (n : Terminal) → next_in (xs ++ ys) n ≡ next_in xs (next_in ys n)
next_append [] ys n = refl
next_append (x ∷ xs) ys n = refl

pub keeps_split : (c : Context) (xs ys : Slots) (n : Terminal) → Keeps c (xs ++ ys) n →
    Keeps c xs (next_in ys n) × Keeps (entered c xs) ys n
keeps_split c [] ys n k = (tt, k)
keeps_split c (x ∷ xs) ys n k =
    let rest = keeps_split (enter c x) xs ys n k.1 in
    ((λ r. sym (ap (λ (t : Terminal). breaks r c x t) (next_append xs ys n)) ∙ k.0 r, rest.0), rest.1)

keeps_join : (c : Context) (xs ys : Slots) (n : Terminal) → Keeps c xs (next_in ys n) → Keeps (entered c xs) ys n →
    Keeps c (xs ++ ys) n
keeps_join c [] ys n k l = l
keeps_join c (x ∷ xs) ys n k l =
    (λ r. ap (λ (t : Terminal). breaks r c x t) (next_append xs ys n) ∙ k.0 r, keeps_join (enter c x) xs ys n k.1 l)

-- ---- tokens of no directive

abbrev has_line : Slots → Bool
has_line [] = false
has_line (x ∷ xs) = cond (is_line_terminal x.0) true (has_line xs)

abbrev pub NoLines : Slots → Type 0
NoLines xs = has_line xs ≡ false

or_false : (a b : Bool) → cond a true b ≡ false → (a ≡ false) × (b ≡ false)
or_false true b e = absurd cc
or_false false b e = (refl, e)

pub no_line_first : (x : Slot) (xs : Slots) → NoLines (x ∷ xs) → (is_line_terminal x.0 ≡ false) × NoLines xs
no_line_first x xs e = or_false (is_line_terminal x.0) (has_line xs) e

pub no_lines_append : (xs ys : Slots) → NoLines xs → NoLines ys → NoLines (xs ++ ys)
no_lines_append [] ys n m = m
no_lines_append (x ∷ xs) ys n m =
    let both = no_line_first x xs n in
    ap (λ (b : Bool). cond b true (has_line (xs ++ ys))) both.0 ∙ no_lines_append xs ys both.1 m

-- what is in no expression, and what no rule asks the next token for
abbrev pub IsFree : Act → Type 0
IsFree Operand = ⊥
IsFree OpensBracket = ⊥
IsFree ClosesBracket = ⊥
IsFree Divisor = ⊥
IsFree Count = ⊥
IsFree Inner = ⊥
IsFree Assigned = ⊥
IsFree DeclaresGlobal = ⊥
IsFree _ = Unit {0}

-- the last one's rules do not ask for the next token
abbrev pub EndsFree : Slots → Type 0
EndsFree [] = Unit {0}
EndsFree (x ∷ []) = IsFree x.1.1
EndsFree (x ∷ y ∷ xs) = EndsFree (y ∷ xs)

pub ends_free : (xs : Slots) (y : Slot) (ys : Slots) → EndsFree (y ∷ ys) → EndsFree (xs ++ (y ∷ ys))
ends_free [] y ys e = e
ends_free (x ∷ []) y ys e = e
ends_free (x ∷ z ∷ xs) y ys e = ends_free (z ∷ xs) y ys e

free_next : (code : Code) (c : Context) (t : Terminal) (a : Act) (n m : Terminal) → IsFree a →
    breaks_act code c t a n ≡ breaks_act code c t a m
free_next UnknownByte c t Plain n m f = refl
free_next UnknownByte c t _ n m f = refl
free_next Unexpected c t Plain n m f = refl
free_next Unexpected c t _ n m f = refl
free_next Undeclared c t Operand n m f = absurd f
free_next Undeclared c t Assigned n m f = absurd f
free_next Undeclared c t _ n m f = refl
free_next AlreadyDeclared c t Plain n m f = refl
free_next AlreadyDeclared c t _ n m f = refl
free_next BadNumber c t Plain n m f = refl
free_next BadNumber c t _ n m f = refl
free_next BadLength c t Plain n m f = refl
free_next BadLength c t _ n m f = refl
free_next LoopNameAssigned c t Assigned n m f = absurd f
free_next LoopNameAssigned c t _ n m f = refl
free_next BadOperand c t Plain n m f = refl
free_next BadOperand c t _ n m f = refl
free_next TooDeep c t Plain n m f = refl
free_next TooDeep c t _ n m f = refl
free_next TooMany c t DeclaresGlobal n m f = absurd f
free_next TooMany c t _ n m f = refl
free_next UnknownDirective c t Plain n m f = refl
free_next UnknownDirective c t _ n m f = refl
free_next UnknownClause c t Plain n m f = refl
free_next UnknownClause c t _ n m f = refl
free_next ClauseCount c t Plain n m f = refl
free_next ClauseCount c t _ n m f = refl
free_next BadMapType c t Plain n m f = refl
free_next BadMapType c t _ n m f = refl
free_next BadBound c t Plain n m f = refl
free_next BadBound c t _ n m f = refl
free_next ArrayTwice c t Plain n m f = refl
free_next ArrayTwice c t _ n m f = refl
free_next DirectiveInTarget c t Plain n m f = refl
free_next DirectiveInTarget c t _ n m f = refl
free_next OuterAssigned c t Assigned n m f = absurd f
free_next OuterAssigned c t _ n m f = refl
free_next HostOnly c t Plain n m f = refl
free_next HostOnly c t _ n m f = refl
free_next NoBody c t Plain n m f = refl
free_next NoBody c t _ n m f = refl
free_next DirectiveUnderIf c t Plain n m f = refl
free_next DirectiveUnderIf c t _ n m f = refl
free_next BadDevice c t Plain n m f = refl
free_next BadDevice c t _ n m f = refl

from_or : (a b d : Bool) → (a || b) ≡ false → (b ≡ false → d ≡ false) → (a || d) ≡ false
from_or true b d e h = absurd cc
from_or false b d e h = h e

no_misuse : (c : Context) (code : Code) (k : ℕ) (t : Terminal) → is_line_terminal t ≡ false → misuses code c k t ≡ false
no_misuse c code k (Line ts) e = absurd cc
no_misuse c code k (Fixed w) e = refl
no_misuse c code k (Mark s) e = refl
no_misuse c code k (Name y) e = refl
no_misuse c code k (Num v) e = refl
no_misuse c code k Unknown e = refl
no_misuse c code k Unworked e = refl
no_misuse c code k End e = refl

plain_part : (c : Context) (n a : ℕ) (t : Terminal) (r : Act) (next : Terminal) → n ≤ c.statements → a ≤ c.arrays →
    is_line_terminal t ≡ false → (k : ℕ) (code : Code) → breaks_part k code c t r next ≡ false →
    breaks_part k code (plain n a c) t r next ≡ false
plain_part c n a t r next h g l zero code e = from_or (wrong_token code t) _ _ e (plain_breaks c n a h g t next code r)
plain_part c n a t r next h g l (suc zero) code e = e
plain_part c n a t r next h g l (suc (suc k)) code e = rw (no_misuse (plain n a c) code k t l) refl

free_part : (c : Context) (t : Terminal) (a : Act) (next other : Terminal) → IsFree a → (k : ℕ) (code : Code) →
    breaks_part k code c t a next ≡ breaks_part k code c t a other
free_part c t a next other f zero code = ap (λ (b : Bool). wrong_token code t || b) (free_next code c t a next other f)
free_part c t a next other f (suc zero) code = refl
free_part c t a next other f (suc (suc k)) code = refl

-- one token
plain_slot : (c d : Context) (x : Slot) (next : Terminal) → Follows c d → is_line_terminal x.0 ≡ false →
    ((r : Rule) → breaks r c x next ≡ false) → (r : Rule) → breaks r d x next ≡ false
unfolding breaks
plain_slot c d x next f l k r =
    ap (λ (e : Context). breaks_part r.part r.code e x.0 x.1.1 next) f.2
    ∙ plain_part c f.0 f.1 x.0 x.1.1 next f.3 f.4 l r.part r.code (k r)

free_slot : (c : Context) (x : Slot) (next other : Terminal) → IsFree x.1.1 → ((r : Rule) → breaks r c x next ≡ false) →
    (r : Rule) → breaks r c x other ≡ false
unfolding breaks
free_slot c x next other f k r = sym (free_part c x.0 x.1.1 next other f r.part r.code) ∙ k r

pub follows_slot : (c d : Context) (x : Slot) → Follows c d → is_line_terminal x.0 ≡ false → Follows (enter c x) (enter d x)
unfolding enter
follows_slot c d x f l =
    let next = plain_enter c f.0 f.1 x.0 x.1.1 f.3 f.4 l in
    (next.0, next.1, ap (λ (e : Context). act e x.0 x.1.1) f.2 ∙ next.2, next.3, next.4)

-- some tokens, with any token behind them
pub follows_keeps : (xs : Slots) (c d : Context) (n m : Terminal) → NoLines xs → EndsFree xs → Follows c d → Keeps c xs n → Keeps d xs m
follows_keeps [] c d n m l e f k = tt
follows_keeps (x ∷ []) c d n m l e f k =
    (plain_slot c d x m f (no_line_first x [] l).0 (free_slot c x n m e k.0), tt)
follows_keeps (x ∷ y ∷ xs) c d n m l e f k =
    let both = no_line_first x (y ∷ xs) l in (
      plain_slot c d x y.0 f both.0 k.0,
      follows_keeps (y ∷ xs) (enter c x) (enter d x) n m both.1 e (follows_slot c d x f both.0) k.1,
    )

pub follows_all : (xs : Slots) (c d : Context) → NoLines xs → Follows c d → Follows (entered c xs) (entered d xs)
follows_all [] c d l f = f
follows_all (x ∷ xs) c d l f =
    let both = no_line_first x xs l in follows_all xs (enter c x) (enter d x) both.1 (follows_slot c d x f both.0)

-- ---- outside expressions

abbrev pub IsOut : Context → Type 0
IsOut c = (c.depth ≡ 0) × (c.tokens ≡ 0)

free_out : (c : Context) (t : Terminal) (a : Act) → IsFree a → IsOut (act c t a)
free_out c t Plain f = (refl, refl)
free_out c t DeclaresLocal f = (refl, refl)
free_out c t DeclaresLoop f = (refl, refl)
free_out c t MakesArray f = (refl, refl)
free_out c t MakesScalar f = (refl, refl)
free_out c t Length f = (refl, refl)
free_out c t Limit f = (refl, refl)
free_out c t Step f = (refl, refl)
free_out c t Starts f = (refl, refl)
free_out c t StartsIf f = (refl, refl)
free_out c t Prints f = (refl, refl)
free_out c t StartsBlock f = (refl, refl)
free_out c t Otherwise f = (refl, refl)
free_out c t Reads f = (refl, refl)
free_out c t Opens f = (refl, refl)
free_out c t Closes f = (refl, refl)
free_out c t Alone f = (refl, refl)
free_out c (Fixed w) Over f = (refl, refl)
free_out c (Mark s) Over f = (refl, refl)
free_out c (Name x) Over f = (refl, refl)
free_out c (Num v) Over f = (refl, refl)
free_out c (Line ts) Over f = (refl, refl)
free_out c Unknown Over f = (refl, refl)
free_out c Unworked Over f = (refl, refl)
free_out c End Over f = (refl, refl)
free_out c t Marks f = (refl, refl)
free_out c t Boxes f = (refl, refl)
free_out c t Operand f = absurd f
free_out c t OpensBracket f = absurd f
free_out c t ClosesBracket f = absurd f
free_out c t Divisor f = absurd f
free_out c t Count f = absurd f
free_out c t Inner f = absurd f
free_out c t Assigned f = absurd f
free_out c t DeclaresGlobal f = absurd f

pub ends_out : (c : Context) (x : Slot) (xs : Slots) → EndsFree (x ∷ xs) → IsOut (entered c (x ∷ xs))
unfolding enter
ends_out c x [] e = free_out c x.0 x.1.1 e
ends_out c x (y ∷ xs) e = ends_out (enter c x) y xs e

-- ---- going on

-- these tokens keep the rules before this one, and what stands behind them stands for a context
abbrev pub Goes : Context → Slots → Terminal → Context → Type 0
Goes d ys m end = Keeps d ys m × Follows end (entered d ys)

goes_join : (d : Context) (xs ys : Slots) (m : Terminal) (end : Context) → Keeps d xs (next_in ys m) → Goes (entered d xs) ys m end →
    Goes d (xs ++ ys) m end
goes_join d xs ys m end k g =
    (keeps_join d xs ys m k g.0, subst (λ (e : Context). Follows end e) (sym (entered_append d xs ys)) g.1)

-- where the first tokens keep the rules so do the second, whatever stands behind them
abbrev pub Keeping : Slots → Slots → Type 0
Keeping xs ys = (zs : Slots) (c d : Context) (n m : Terminal) (end : Context) → Follows c d → IsOut c → Keeps c xs n →
    ((e : Context) → Follows (entered c xs) e → IsOut (entered c xs) → Goes e zs m end) → Goes d (ys ++ zs) m end

pub keeping_none : Keeping [] []
keeping_none zs c d n m end f o k go = go d f o

-- tokens of no directive
pub keeping_same : (x : Slot) (xs : Slots) → NoLines (x ∷ xs) → EndsFree (x ∷ xs) → Keeping (x ∷ xs) (x ∷ xs)
keeping_same x xs l e zs c d n m end f o k go =
    goes_join d (x ∷ xs) zs m end (follows_keeps (x ∷ xs) c d n (next_in zs m) l e f k)
    (go (entered d (x ∷ xs)) (follows_all (x ∷ xs) c d l f) (ends_out c x xs e))

pub keeping_join : (xs us ys vs : Slots) → Keeping xs us → Keeping ys vs → Keeping (xs ++ ys) (us ++ vs)
keeping_join xs us ys vs first second zs c d n m end f o k go =
    let parts = keeps_split c xs ys n k in
    let behind = entered_append c xs ys in
    subst (λ (ws : Slots). Goes d ws m end) (sym (append_assoc us vs zs))
    (first (vs ++ zs) c d (next_in ys n) m end f o parts.0
    (λ e g p. second zs (entered c xs) e n m end g p parts.1
    (λ e2 g2 p2. go e2 (subst (λ (b : Context). Follows b e2) (sym behind) g2) (subst IsOut (sym behind) p2))))

pub keeping_as : (xs ys us vs : Slots) → xs ≡ ys → us ≡ vs → Keeping xs us → Keeping ys vs
keeping_as xs ys us vs p q k = subst (λ (ws : Slots). Keeping ys ws) q (subst (λ (ws : Slots). Keeping ws us) p k)

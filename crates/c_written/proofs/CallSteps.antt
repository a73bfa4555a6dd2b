-- One token of a call, and of the tokens with their calls, after another.
use Rattle.std.proofs.Common.{◌≡◌, ◌∙◌, ℕ, zero, suc, ◌+◌, ◌-◌, ◌<◌, ◌≤◌, Bool, true, false, length, List, [], ◌∷◌, ◌++◌, Option, Some, None, refl, ap, arith}
use Rattle.std.specs.Prelude.{◌&&◌, ◌==◌, nat_lt, if◌then◌else◌}
use Rattle.c_tokens.specs.declared.kind.Sign.TheVariants as sign
use Rattle.c_grammar.specs.Terminal.{Terminal}
use Rattle.c_grammar.specs.Texts.{Item}
use Rattle.c_grammar.specs.Blocks.{Items, bare, is_directive}
use Rattle.c_grammar.specs.Changes.{is_boundary, is_mark}
use Rattle.c_grammar.specs.Constants.{Names}
use Rattle.c_grammar.specs.Functions.{Expanded, Functions, Statements, arguments, called, closes, expansion, in_room, index_len, opens}
use Rattle.c_written.specs.Functions.{fitting, statement_at}

-- ---- what stands between the brackets

pub arguments_end : (d : ℕ) (now : Items) (done : List Items) (k : ℕ) (is : Items) → is ≡ [] → arguments d now done k is ≡ None
unfolding arguments
arguments_end d now done k is e = ap (arguments d now done k) e

pub arguments_bounded : (d : ℕ) (now : Items) (done : List Items) (k : ℕ) (is js : Items) (i : Item Terminal) → is ≡ i ∷ js →
    is_boundary i.terminal ≡ true → arguments d now done k is ≡ None
unfolding arguments
arguments_bounded d now done k is js i e a = ap (arguments d now done k) e ∙ rw a refl

pub arguments_opened : (d : ℕ) (now : Items) (done : List Items) (k : ℕ) (is js : Items) (i : Item Terminal) → is ≡ i ∷ js →
    is_boundary i.terminal ≡ false → opens i ≡ true →
    arguments d now done k is ≡ arguments (d + 1) (now ++ i ∷ []) done (k + 1) js
unfolding arguments
arguments_opened d now done k is js i e a b = ap (arguments d now done k) e ∙ rw a (rw b refl)

pub arguments_over : (d : ℕ) (now : Items) (done : List Items) (k : ℕ) (is js : Items) (i : Item Terminal) → is ≡ i ∷ js →
    is_boundary i.terminal ≡ false → opens i ≡ false → closes i ≡ true → d ≡ 0 → is_mark sign.CloseParen i ≡ true →
    arguments d now done k is ≡ Some (record { list = done ++ now ∷ []; len = k + 1 })
unfolding arguments
arguments_over zero now done k is js i e a b c h f = ap (arguments 0 now done k) e ∙ rw a (rw b (rw c (rw f refl)))
arguments_over (suc d) now done k is js i e a b c h f = absurd (omega (arith, h))

pub arguments_stopped : (d : ℕ) (now : Items) (done : List Items) (k : ℕ) (is js : Items) (i : Item Terminal) → is ≡ i ∷ js →
    is_boundary i.terminal ≡ false → opens i ≡ false → closes i ≡ true → d ≡ 0 → is_mark sign.CloseParen i ≡ false →
    arguments d now done k is ≡ None
unfolding arguments
arguments_stopped zero now done k is js i e a b c h f = ap (arguments 0 now done k) e ∙ rw a (rw b (rw c (rw f refl)))
arguments_stopped (suc d) now done k is js i e a b c h f = absurd (omega (arith, h))

pub arguments_closed : (d : ℕ) (now : Items) (done : List Items) (k : ℕ) (is js : Items) (i : Item Terminal) → is ≡ i ∷ js →
    is_boundary i.terminal ≡ false → opens i ≡ false → closes i ≡ true → 0 < d →
    arguments d now done k is ≡ arguments (d - 1) (now ++ i ∷ []) done (k + 1) js
unfolding arguments
arguments_closed zero now done k is js i e a b c h = absurd (omega (arith, h))
arguments_closed (suc d) now done k is js i e a b c h =
    let less : d ≡ suc d - 1 = omega arith in
    ap (arguments (suc d) now done k) e ∙ rw a (rw b (rw c (ap (λ (n : ℕ). arguments n (now ++ i ∷ []) done (k + 1) js) less)))

pub arguments_next : (d : ℕ) (now : Items) (done : List Items) (k : ℕ) (is js : Items) (i : Item Terminal) → is ≡ i ∷ js →
    is_boundary i.terminal ≡ false → opens i ≡ false → closes i ≡ false → (is_mark sign.Comma i && (d == 0)) ≡ true →
    arguments d now done k is ≡ arguments 0 [] (done ++ now ∷ []) (k + 1) js
unfolding arguments
arguments_next d now done k is js i e a b c f = ap (arguments d now done k) e ∙ rw a (rw b (rw c (rw f refl)))

pub arguments_more : (d : ℕ) (now : Items) (done : List Items) (k : ℕ) (is js : Items) (i : Item Terminal) → is ≡ i ∷ js →
    is_boundary i.terminal ≡ false → opens i ≡ false → closes i ≡ false → (is_mark sign.Comma i && (d == 0)) ≡ false →
    arguments d now done k is ≡ arguments d (now ++ i ∷ []) done (k + 1) js
unfolding arguments
arguments_more d now done k is js i e a b c f = ap (arguments d now done k) e ∙ rw a (rw b (rw c (rw f refl)))

-- ---- an index

pub index_end : (d k : ℕ) (is : Items) → is ≡ [] → index_len d k is ≡ None
unfolding index_len
index_end d k is e = ap (index_len d k) e

pub index_bounded : (d k : ℕ) (is js : Items) (i : Item Terminal) → is ≡ i ∷ js → is_boundary i.terminal ≡ true → index_len d k is ≡ None
unfolding index_len
index_bounded d k is js i e a = ap (index_len d k) e ∙ rw a refl

pub index_opened : (d k : ℕ) (is js : Items) (i : Item Terminal) → is ≡ i ∷ js → is_boundary i.terminal ≡ false →
    is_mark sign.OpenBracket i ≡ true → index_len d k is ≡ index_len (d + 1) (k + 1) js
unfolding index_len
index_opened d k is js i e a b = ap (index_len d k) e ∙ rw a (rw b refl)

pub index_over : (d k : ℕ) (is js : Items) (i : Item Terminal) → is ≡ i ∷ js → is_boundary i.terminal ≡ false →
    is_mark sign.OpenBracket i ≡ false → is_mark sign.CloseBracket i ≡ true → d ≤ 1 → index_len d k is ≡ Some (k + 1)
unfolding index_len
index_over zero k is js i e a b c h = ap (index_len 0 k) e ∙ rw a (rw b (rw c refl))
index_over (suc zero) k is js i e a b c h = ap (index_len 1 k) e ∙ rw a (rw b (rw c refl))
index_over (suc (suc d)) k is js i e a b c h = absurd (omega (arith, h))

pub index_closed : (d k : ℕ) (is js : Items) (i : Item Terminal) → is ≡ i ∷ js → is_boundary i.terminal ≡ false →
    is_mark sign.OpenBracket i ≡ false → is_mark sign.CloseBracket i ≡ true → 1 < d → index_len d k is ≡ index_len (d - 1) (k + 1) js
unfolding index_len
index_closed zero k is js i e a b c h = absurd (omega (arith, h))
index_closed (suc zero) k is js i e a b c h = absurd (omega (arith, h))
index_closed (suc (suc d)) k is js i e a b c h =
    let less : suc d ≡ suc (suc d) - 1 = omega arith in
    ap (index_len (suc (suc d)) k) e ∙ rw a (rw b (rw c (ap (λ (n : ℕ). index_len n (k + 1) js) less)))

pub index_more : (d k : ℕ) (is js : Items) (i : Item Terminal) → is ≡ i ∷ js → is_boundary i.terminal ≡ false →
    is_mark sign.OpenBracket i ≡ false → is_mark sign.CloseBracket i ≡ false → index_len d k is ≡ index_len d (k + 1) js
unfolding index_len
index_more d k is js i e a b c = ap (index_len d k) e ∙ rw a (rw b (rw c refl))

-- ---- the tokens with their calls

pub called_end : (g : Names) (fs : Functions) (b : Bool) (r k : ℕ) → called g fs b r k [] ≡ []
unfolding called
called_end g fs b r k = refl

pub called_line : (g : Names) (fs : Functions) (b : Bool) (r k : ℕ) (i : Item Terminal) (is : Items) → is_directive i.terminal ≡ true →
    called g fs b r k (i ∷ is) ≡ i ∷ called g fs b r k is
unfolding called
called_line g fs b r k i is e = rw e refl

pub called_left : (g : Names) (fs : Functions) (b : Bool) (r k : ℕ) (i : Item Terminal) (is : Items) → is_directive i.terminal ≡ false → 0 < k →
    called g fs b r k (i ∷ is) ≡ called g fs b r (k - 1) is
unfolding called
called_left g fs b r zero i is e h = absurd (omega arith)
called_left g fs b r (suc k) i is e h =
    let less : k ≡ suc k - 1 = omega arith in rw e (ap (λ (n : ℕ). called g fs b r n is) less)

not_there : (t : Bool) (e : Expanded) (x y : Items) → (if t then Some e else None) ≡ None → (if t then x else y) ≡ y
not_there true e x y h = absurd cc
not_there false e x y h = refl

none_in : (b : Bool) (o : Option Expanded) (i : Item Terminal) (r : ℕ) (go : Statements) → (if b then fitting r o else None) ≡ None →
    in_room i r (if b then o else None) go ≡ i ∷ go (is_boundary i.terminal) r 0
none_in false o i r go h = refl
none_in true None i r go h = refl
none_in true (Some e) i r go h =
    not_there (nat_lt (length (bare e.items)) r) e (e.items ++ go true (r - length (bare e.items)) (e.len - 1))
    (i ∷ go (is_boundary i.terminal) r 0) h

there : (t : Bool) (e f : Expanded) (put : Expanded → Items) (y : Items) → (if t then Some e else None) ≡ Some f →
    (if t then put e else y) ≡ put f
there false e f put y h = absurd cc
there true e f put y h = let same : e ≡ f = cc in ap put same

some_in : (b : Bool) (o : Option Expanded) (f : Expanded) (i : Item Terminal) (r : ℕ) (go : Statements) →
    (if b then fitting r o else None) ≡ Some f →
    in_room i r (if b then o else None) go ≡ f.items ++ go true (r - length (bare f.items)) (f.len - 1)
some_in false o f i r go h = absurd cc
some_in true None f i r go h = absurd cc
some_in true (Some e) f i r go h =
    there (nat_lt (length (bare e.items)) r) e f (λ x. x.items ++ go true (r - length (bare x.items)) (x.len - 1))
    (i ∷ go (is_boundary i.terminal) r 0) h

pub called_stays : (g : Names) (fs : Functions) (b : Bool) (r k : ℕ) (i : Item Terminal) (is : Items) → is_directive i.terminal ≡ false → k ≡ 0 →
    statement_at g fs b r (i ∷ bare is) ≡ None → called g fs b r k (i ∷ is) ≡ i ∷ called g fs (is_boundary i.terminal) r 0 is
unfolding called
called_stays g fs b r zero i is e h f = rw e (none_in b (expansion g fs (i ∷ bare is)) i r (λ b r k. called g fs b r k is) f)
called_stays g fs b r (suc k) i is e h f = absurd (omega (arith, h))

pub called_expands : (g : Names) (fs : Functions) (b : Bool) (r k : ℕ) (i : Item Terminal) (is : Items) (f : Expanded) → is_directive i.terminal ≡ false →
    k ≡ 0 → statement_at g fs b r (i ∷ bare is) ≡ Some f →
    called g fs b r k (i ∷ is) ≡ f.items ++ called g fs true (r - length (bare f.items)) (f.len - 1) is
unfolding called
called_expands g fs b r zero i is f e h k = rw e (some_in b (expansion g fs (i ∷ bare is)) f i r (λ b r k. called g fs b r k is) k)
called_expands g fs b r (suc n) i is f e h k = absurd (omega (arith, h))

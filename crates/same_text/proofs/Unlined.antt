-- Types and blocks are written out without a look at the lines of the tokens.
use Rattle.std.proofs.Common.{◌≡◌, ℕ, zero, suc, Bool, true, false, cond, [], ◌∷◌, ◌++◌, map, refl, ap, ◌∙◌}
use Rattle.std.specs.Prelude.{◌&&◌, ◌==◌, codes}
use Rattle.c_tokens.specs.declared.kind.Sign.TheVariants as sign
use Rattle.c_grammar.specs.Lexeme.{Uint64}
use Rattle.c_grammar.specs.Terminal.{Terminal, Fixed, Mark, Name, same}
use Rattle.c_grammar.specs.Texts.{Item}
use Rattle.c_grammar.specs.Blocks as blocks
use Rattle.c_grammar.specs.Blocks.{Items, is_directive, bare, at, type_at, type_on, longs, typed, Around, Reading, with_open, begins_body, begins_update, is_atomic_line, line_in_block, is_else, is_name, Ends, ends, left, is_end, braces_at, parted, in_block, in_blocks}
use Rattle.same_text.specs.Laws.{unlined}

abbrev pub all_unlined : Items → Items
all_unlined is = map unlined is

-- the first are the second without their lines
abbrev pub AreUnlined : Items → Items → Type 0
AreUnlined js is = js ≡ all_unlined is

pub either : (b c : Bool) (x y x' y' : Items) → c ≡ b → AreUnlined x' x → AreUnlined y' y →
    AreUnlined (cond c x' y') (cond b x y)
either b c x y x' y' e h k = ap (λ (t : Bool). cond t x' y') e ∙ pick b
  where
    pick : (t : Bool) → AreUnlined (cond t x' y') (cond t x y)
    pick true = h
    pick false = k

pub one : (i : Item Terminal) (x x' : Items) → AreUnlined x' x → AreUnlined (unlined i ∷ x') (i ∷ x)
one i x x' e = ap (λ (v : Items). unlined i ∷ v) e

pub some : (is js x x' : Items) → AreUnlined js is → AreUnlined x' x → AreUnlined (js ++ x') (is ++ x)
some is js x x' e h = ap (λ (v : Items). v ++ x') e ∙ go is
  where
    go : (ks : Items) → all_unlined ks ++ x' ≡ all_unlined (ks ++ x)
    go [] = h
    go (k ∷ ks) = ap (λ (v : Items). unlined k ∷ v) (go ks)

pub bare_unlined : (is : Items) → bare (all_unlined is) ≡ all_unlined (bare is)
bare_unlined [] = refl
bare_unlined (i ∷ is) = step (is_directive i.terminal) (bare_unlined is)
  where
    step : (b : Bool) → bare (all_unlined is) ≡ all_unlined (bare is) →
        cond b (bare (all_unlined is)) (unlined i ∷ bare (all_unlined is)) ≡ all_unlined (cond b (bare is) (i ∷ bare is))
    step true e = e
    step false e = ap (λ (v : Items). unlined i ∷ v) e

-- ---- types

type_unlined : (i : Item Terminal) (n : ℕ) (go go' : ℕ → Items) → ((k : ℕ) → AreUnlined (go' k) (go k)) →
    AreUnlined (type_at (unlined i) n go') (type_at i n go)
type_unlined i zero go go' r = one i (go 0) (go' 0) (r 0)
type_unlined i (suc n) go go' r =
    either (same (Name (codes "unsigned")) i.terminal) _ _ _ _ _ refl
    (one (at i (Fixed Uint64)) (go (suc n)) (go' (suc n)) (r (suc n))) (one i (go 0) (go' 0) (r 0))

type_on_unlined : (k : ℕ) (i : Item Terminal) (n : ℕ) (go go' : ℕ → Items) → ((k : ℕ) → AreUnlined (go' k) (go k)) →
    AreUnlined (type_on k (unlined i) n go') (type_on k i n go)
type_on_unlined zero i n go go' r = type_unlined i n go go' r
type_on_unlined (suc k) i n go go' r = r k

longs_unlined : (is : Items) → longs (all_unlined is) ≡ longs is
longs_unlined [] = refl
longs_unlined (i ∷ []) = refl
longs_unlined (i ∷ j ∷ is) = refl

pub typed_unlined : (is : Items) (k : ℕ) → AreUnlined (typed k (all_unlined is)) (typed k is)
unfolding typed
typed_unlined [] k = refl
typed_unlined (i ∷ is) k = step (is_directive i.terminal) (λ k. typed_unlined is k)
  where
    step : (b : Bool) → ((k : ℕ) → AreUnlined (typed k (all_unlined is)) (typed k is)) →
        AreUnlined
        (cond b (unlined i ∷ typed k (all_unlined is))
        (type_on k (unlined i) (longs (bare (all_unlined is))) (λ k. typed k (all_unlined is))))
        (cond b (i ∷ typed k is) (type_on k i (longs (bare is)) (λ k. typed k is)))
    step true ih = one i (typed k is) (typed k (all_unlined is)) (ih k)
    step false ih =
        ap (λ (n : ℕ). type_on k (unlined i) n (λ k. typed k (all_unlined is)))
        (ap longs (bare_unlined is) ∙ longs_unlined (bare is))
        ∙ type_on_unlined k i (longs (bare is)) (λ k. typed k is) (λ k. typed k (all_unlined is)) ih

-- ---- blocks

braces_unlined : (n : ℕ) (i : Item Terminal) → AreUnlined (braces_at n (unlined i)) (braces_at n i)
braces_unlined zero i = refl
braces_unlined (suc n) i = one (at i (Mark sign.CloseBrace)) (braces_at n i) (braces_at n (unlined i)) (braces_unlined n i)

module _ (go go' : Reading → Items) (r : (q : Reading) → AreUnlined (go' q) (go q)) where
  token_unlined : (i : Item Terminal) (other : Bool) (q : Reading) →
      AreUnlined (blocks.plain (unlined i) other q go') (blocks.plain i other q go)
  token_unlined i other q =
      let e : Ends = ends other (left q.levels i.terminal) in
      either (is_end q.levels i.terminal) _ _ _ _ _ refl
      (one i _ _ (some (braces_at e.braces i) (braces_at e.braces (unlined i)) _ _ (braces_unlined e.braces i) (r _)))
      (one i _ _ (r _))

  parted_unlined : (i : Item Terminal) (is : Items) (q : Reading) →
      AreUnlined (parted (unlined i) (all_unlined is) q go') (parted i is q go)
  parted_unlined i [] q =
      either (q.declares && (q.brackets == 0) && same (Mark sign.Comma) i.terminal && false) _ _ _ _ _ refl
      (one (at i (Mark sign.Semicolon)) (at i (Fixed Uint64) ∷ go q) _ (one (at i (Fixed Uint64)) (go q) (go' q) (r q)))
      (token_unlined i false q)
  parted_unlined i (j ∷ is) q =
      either (q.declares && (q.brackets == 0) && same (Mark sign.Comma) i.terminal && is_name (j ∷ is)) _ _ _ _ _ refl
      (one (at i (Mark sign.Semicolon)) (at i (Fixed Uint64) ∷ go q) _ (one (at i (Fixed Uint64)) (go q) (go' q) (r q)))
      (token_unlined i (is_else (j ∷ is)) q)

  else_unlined : (is : Items) → is_else (all_unlined is) ≡ is_else is
  else_unlined [] = refl
  else_unlined (i ∷ is) = refl

  block_unlined : (i : Item Terminal) (is : Items) (q : Reading) →
      AreUnlined (in_block (unlined i) (all_unlined is) q go') (in_block i is q go)
  block_unlined i is q =
      either (q.body && begins_body i.terminal) _ _ _ _ _ refl
      (one (at i (Mark sign.OpenBrace)) (blocks.plain i (is_else is) (with_open (Around ∷ q.levels) false q) go) _
      (ap (λ (b : Bool). blocks.plain (unlined i) b (with_open (Around ∷ q.levels) false q) go') (else_unlined is)
      ∙ token_unlined i (is_else is) (with_open (Around ∷ q.levels) false q)))
      (parted_unlined i is (with_open q.levels false q))

line_unlined : (i : Item Terminal) (is : Items) (q : Reading) (go go' : Reading → Items) →
    ((q : Reading) → AreUnlined (go' q) (go q)) →
    AreUnlined (line_in_block (unlined i) (all_unlined is) q go') (line_in_block i is q go)
line_unlined i [] q go go' r = one i (go q) (go' q) (r q)
line_unlined i (j ∷ js) q go go' r =
    either (q.body && is_atomic_line i.terminal && begins_update j.terminal) _ _ _ _ _ refl
    (one (at j (Mark sign.OpenBrace)) (i ∷ go (with_open (Around ∷ q.levels) false q)) _
    (one i (go (with_open (Around ∷ q.levels) false q)) (go' (with_open (Around ∷ q.levels) false q))
    (r (with_open (Around ∷ q.levels) false q)))) (one i (go q) (go' q) (r q))

pub blocks_unlined : (is : Items) (q : Reading) → AreUnlined (in_blocks q (all_unlined is)) (in_blocks q is)
unfolding in_blocks
blocks_unlined [] q = refl
blocks_unlined (i ∷ is) q = step (is_directive i.terminal) (λ q. blocks_unlined is q)
  where
    step : (b : Bool) → ((q : Reading) → AreUnlined (in_blocks q (all_unlined is)) (in_blocks q is)) →
        AreUnlined
        (cond b (line_in_block (unlined i) (bare (all_unlined is)) q (λ q. in_blocks q (all_unlined is)))
        (in_block (unlined i) (bare (all_unlined is)) q (λ q. in_blocks q (all_unlined is))))
        (cond b (line_in_block i (bare is) q (λ q. in_blocks q is)) (in_block i (bare is) q (λ q. in_blocks q is)))
    step true ih =
        ap (λ (js : Items). line_in_block (unlined i) js q (λ q. in_blocks q (all_unlined is))) (bare_unlined is)
        ∙ line_unlined i (bare is) q (λ q. in_blocks q is) (λ q. in_blocks q (all_unlined is)) ih
    step false ih =
        ap (λ (js : Items). in_block (unlined i) js q (λ q. in_blocks q (all_unlined is))) (bare_unlined is)
        ∙ block_unlined (λ q. in_blocks q is) (λ q. in_blocks q (all_unlined is)) ih i (bare is) q

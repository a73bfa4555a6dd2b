-- Parts and regions, of which a text without directives makes one region.
use Rattle.std.proofs.Common.{◌≡◌, ℕ, zero, suc, ◌+◌, ◌<◌, ◌≤◌, Bool, true, false, ◌||◌, eqb, List, [], ◌∷◌, Option, Some, None, refl, sym, ap, ◌∙◌, arith, append-nil}
use Rattle.std.specs.Prelude.{option_and_then, option_map}
use Rattle.std.proofs.lemmas.Bool.{or_from, or_left, or_right}
use Rattle.std.proofs.lemmas.Bool.Decides.{nat_tests}
use mathlib.Core.Former.{Count}
use mathlib.Core.Path.{fun_ext}
use Rattle.base.specs.declared.item.Cell.{Cell}
use Rattle.base.specs.declared.tree.ArrayId.{ArrayId}
use Rattle.base.specs.declared.tree.ScalarId.{ScalarId}
use Rattle.base.specs.declared.tree.Part.{Part, Row_of-Part, end_of-Part, more_of-Part, items-the_row-Part}
use Rattle.base.specs.declared.tree.Stmt.{Stmt as Statement}
use Rattle.base.specs.Memory.{Memory, Scalars, view_of, with_stores}
use Rattle.base.specs.Meaning.{Run, Plain, turn, run_list, after_region, erased_part, erased_row, erased_list}
use Rattle.c_grammar.specs.Grammar.{Stmts}
use Rattle.c_expressions.specs.declared.scope.Meaning.TheVariants as meaning
use Rattle.c_expressions.specs.Means.{Items, Names}
use Rattle.c_statements.specs.Statements.{Env, AreStatements}
use Rattle.c_read.specs.Parts.{in_target}
use Rattle.erasure.specs.Plain.{plain_stmts}
use Rattle.erased_meaning.proofs.Entries.{Entry, Each, each_more, each_both}
use Rattle.erased_meaning.proofs.Boxes.{Layout, IsHeld, IsSame, Agree}
use Rattle.erased_meaning.proofs.Apart.{Fits, AllFit, all_fit, IsSound}
use Rattle.erased_meaning.proofs.Likeness.{Mode, OnHost, InTarget, Like, Both}
use Rattle.erased_meaning.proofs.Envs.{plain_env, IsFree, AreQuiet, IsPlaced}
use Rattle.erased_meaning.proofs.Statements.{lists_end}

-- where the program stands without its directives, and where the one region of the text without them
pub record Ended (d : Layout) (w : Memory) (names : Names) (p : Plain) (q : Run) : Type 0 where
  pub memory : (c : Cell) → c.array.0 < d.arrays → p.memory c ≡ with_stores q.stores w c
  pub scalars : Agree p.memory p.scalars q.scalars names
  pub input : p.input ≡ q.input
  pub printed : q.printed ≡ p.printed

abbrev pub BothEnd : Layout → Memory → Names → Option Plain → Option Run → Type 0
BothEnd d w names None None = Unit {0}
BothEnd d w names (Some p) (Some q) = Ended d w names p q
BothEnd d w names _ _ = ⊥

-- at the start of a region
abbrev pub fresh : Plain → Run
fresh p = record { scalars = p.scalars; stores = []; input = p.input; printed = [] }

pub fresh_same : (p : Plain) → after_region p (fresh p) ≡ p
fresh_same p = ap (λ (vs : List ℕ). record p { printed = vs }) (append-nil p.printed)

pub region_starts : (d : Layout) (w : Memory) (names : Names) (p : Plain) (q : Run) → Ended d w names p q →
    Like d p.memory w (OnHost p.printed) names (fresh p) q
region_starts d w names p q e =
    record { memory = e.memory; scalars = e.scalars; passed = (e.input, e.printed ∙ sym (append-nil p.printed)) }

pub region_ends : (d : Layout) (w : Memory) (names : Names) (p : Plain) (r q : Run) →
    Like d p.memory w (OnHost p.printed) names r q → Ended d w names (after_region p r) q
region_ends d w names p r q l =
    record { memory = l.memory; scalars = l.scalars; input = l.passed.0; printed = l.passed.1 }

-- ---- parts one after another

abbrev pub parts_run : List ℕ → List Part → List ℕ → Plain → Option Plain
parts_run lengths [] loops s = Some s
parts_run lengths (first ∷ rest) loops s =
    option_and_then (parts_run lengths rest loops) (erased_part first lengths loops s)

pub parts_row : (lengths : List ℕ) (n : Count) (row : Row_of-Part n) (loops : List ℕ) (s : Plain) →
    erased_row row lengths loops s ≡ parts_run lengths (items-the_row-Part n row) loops s
parts_row lengths n end_of-Part loops s = refl
parts_row lengths n (more_of-Part first rest) loops s =
    ap (λ f. option_and_then f (erased_part first lengths loops s)) (fun_ext (λ x. parts_row lengths _ rest loops x))

pub parts_list : (lengths : List ℕ) (ps : List Part) (s : Plain) → erased_list ps lengths s ≡ parts_run lengths ps [] s
parts_list lengths [] s = refl
parts_list lengths (p ∷ ps) s =
    ap (λ f. option_and_then f (erased_part p lengths [] s)) (fun_ext (λ x. parts_list lengths ps x))

-- the parts behind a region of which this is the run
abbrev pub rest_run : List ℕ → List Part → List ℕ → Plain → Option Run → Option Plain
rest_run lengths ps loops p o = option_and_then (λ r. parts_run lengths ps loops (after_region p r)) o

pub region_then : (lengths : List ℕ) (ps : List Part) (loops : List ℕ) (p : Plain) (o : Option Run) →
    option_and_then (parts_run lengths ps loops) (option_map (after_region p) o) ≡ rest_run lengths ps loops p o
region_then lengths ps loops p None = refl
region_then lengths ps loops p (Some r) = refl

pub ended_less : (d : Layout) (w : Memory) (names other : Names) (o : Option Plain) (p : Option Run) →
    ((m : Memory) (f g : Scalars) → Agree m f g names → Agree m f g other) → BothEnd d w names o p →
    BothEnd d w other o p
ended_less d w names other None None h b = tt
ended_less d w names other (Some r) (Some q) h b =
    record {
      memory = b.memory;
      scalars = h r.memory r.scalars q.scalars b.scalars;
      input = b.input;
      printed = b.printed;
    }
ended_less d w names other None (Some q) h b = absurd b
ended_less d w names other (Some r) None h b = absurd b

pub ended_then : (d : Layout) (w : Memory) (names other : Names) (f : Plain → Option Plain) (g : Run → Option Run)
    (o : Option Plain) (p : Option Run) →
    BothEnd d w names o p → ((r : Plain) (q : Run) → Ended d w names r q → BothEnd d w other (f r) (g q)) →
    BothEnd d w other (option_and_then f o) (option_and_then g p)
ended_then d w names other f g None None b h = tt
ended_then d w names other f g (Some r) (Some q) b h = h r q b
ended_then d w names other f g None (Some q) b h = absurd b
ended_then d w names other f g (Some r) None b h = absurd b

-- a region's run, and what follows it
pub ended_behind : (d : Layout) (w : Memory) (mode : Mode) (m : Memory) (names other : Names) (f : Run → Option Plain)
    (g : Run → Option Run) (o p : Option Run) →
    Both d m w mode names o p → ((r q : Run) → Like d m w mode names r q → BothEnd d w other (f r) (g q)) →
    BothEnd d w other (option_and_then f o) (option_and_then g p)
ended_behind d w mode m names other f g None None b h = tt
ended_behind d w mode m names other f g (Some r) (Some q) b h = h r q b
ended_behind d w mode m names other f g None (Some q) b h = absurd b
ended_behind d w mode m names other f g (Some r) None b h = absurd b

pub ended_turns : (d : Layout) (w : Memory) (names : Names) (f : ℕ → Plain → Option Plain) (g : ℕ → Run → Option Run) →
    ((v : ℕ) (r : Plain) (q : Run) → Ended d w names r q → BothEnd d w names (f v r) (g v q)) →
    (n v step : ℕ) (r : Plain) (q : Run) → Ended d w names r q →
    BothEnd d w names (turn n v step f r) (turn n v step g q)
ended_turns d w names f g h zero v step r q l = l
ended_turns d w names f g h (suc n) v step r q l =
    go (f v r) (g v q) (h v r q l) (λ r q l. ended_turns d w names f g h n (v + step) step r q l)
  where
    go : (o : Option Plain) (p : Option Run) → BothEnd d w names o p →
        ((r : Plain) (q : Run) → Ended d w names r q →
        BothEnd d w names (turn n (v + step) step f r) (turn n (v + step) step g q)) →
        BothEnd d w names (elim o [ None ↦ None | Some t ↦ turn n (v + step) step f t ])
        (elim p [ None ↦ None | Some t ↦ turn n (v + step) step g t ])
    go None None b ih = tt
    go (Some r) (Some q) b ih = ih r q b
    go None (Some q) b ih = absurd b
    go (Some r) None b ih = absurd b

-- ---- the block or loop of a target

-- none is declared in a target
abbrev pub IsOuter : Entry → Type 0
IsOuter (x, meaning.Scalar k i) = i ≡ false
IsOuter _ = Unit {0}

-- the number is that of a scalar that is not boxed
abbrev is_plain : Names → ℕ → Bool
is_plain [] n = false
is_plain ((x, meaning.Scalar k i) ∷ ns) n = eqb n k.0 || is_plain ns n
is_plain (e ∷ ns) n = is_plain ns n

new_number : (d : Layout) (scalars n : ℕ) (ns : Names) → scalars ≤ n → Each (IsHeld d scalars) ns →
    is_plain ns n ≡ false
new_number d scalars n [] h a = refl
new_number d scalars n ((x, meaning.Scalar k i) ∷ ns) h a =
    let below : k.0 < scalars = a.0 in
    let other : eqb n k.0 ≡ false = grind (arith, nat_tests, below, h) in
    or_from (eqb n k.0) (is_plain ns n) other (new_number d scalars n ns h a.1)
new_number d scalars n ((x, meaning.Array b) ∷ ns) h a = new_number d scalars n ns h a.1
new_number d scalars n ((x, meaning.Boxed b k) ∷ ns) h a = new_number d scalars n ns h a.1
new_number d scalars n ((x, meaning.Loop k) ∷ ns) h a = new_number d scalars n ns h a.1

boxed_number : (a : ArrayId) (n : ScalarId) (ns : Names) → Each (Fits (meaning.Boxed a n)) ns → is_plain ns n.0 ≡ false
boxed_number a n [] f = refl
boxed_number a n ((x, meaning.Scalar k i) ∷ ns) f =
    or_from (eqb n.0 k.0) (is_plain ns n.0) f.0 (boxed_number a n ns f.1)
boxed_number a n ((x, meaning.Array b) ∷ ns) f = boxed_number a n ns f.1
boxed_number a n ((x, meaning.Boxed b k) ∷ ns) f = boxed_number a n ns f.1
boxed_number a n ((x, meaning.Loop k) ∷ ns) f = boxed_number a n ns f.1

all_free : (ns : Names) → Each IsOuter ns → AllFit ns → Each (IsFree (is_plain ns)) ns
all_free ns o f = each_both IsOuter (λ n. Each (Fits n.1) ns) (IsFree (is_plain ns)) ns one o (all_fit ns f)
  where
    one : (n : Entry) → IsOuter n → Each (Fits n.1) ns → IsFree (is_plain ns) n
    one (x, meaning.Scalar k true) o f = absurd cc
    one (x, meaning.Scalar k false) o f = tt
    one (x, meaning.Boxed a k) o f = boxed_number a k ns f
    one (x, meaning.Array a) o f = tt
    one (x, meaning.Loop k) o f = tt

abbrev IsKept : (ℕ → Bool) → Entry → Type 0
IsKept kept (x, meaning.Scalar n i) = kept n.0 ≡ true
IsKept kept _ = Unit {0}

all_kept : (ns : Names) → Each (IsKept (is_plain ns)) ns
all_kept [] = tt
all_kept ((x, meaning.Scalar k i) ∷ ns) =
    let itself : eqb k.0 k.0 ≡ true = grind (arith, nat_tests) in (
      or_left (eqb k.0 k.0) (is_plain ns k.0) itself,
      each_more (IsKept (is_plain ns))
          (IsKept (is_plain ((x, meaning.Scalar k i) ∷ ns))) ns one (all_kept ns),
    )
  where
    one : (e : Entry) → IsKept (is_plain ns) e → IsKept (is_plain ((x, meaning.Scalar k i) ∷ ns)) e
    one (y, meaning.Scalar n j) h = or_right (eqb n.0 k.0) (is_plain ns n.0) h
    one (y, meaning.Boxed a n) h = tt
    one (y, meaning.Array a) h = tt
    one (y, meaning.Loop n) h = tt
all_kept ((x, meaning.Array b) ∷ ns) = (tt, all_kept ns)
all_kept ((x, meaning.Boxed b k) ∷ ns) = (tt, all_kept ns)
all_kept ((x, meaning.Loop k) ∷ ns) = (tt, all_kept ns)

-- behind the target the scalars are those from before it, and the cells of the boxed ones as it left them
module _ (m l : Memory) (f g t h : Scalars) (ns : Names) (same : (k : ℕ) → is_plain ns k ≡ true → h k ≡ g k) where
  abbrev IsBack : Entry → Type 0
  IsBack (x, meaning.Scalar n i) = f n.0 ≡ h n.0
  IsBack _ = Unit {0}

  agree_kept : Agree m f g ns → Agree l t h ns → Agree l f h ns
  agree_kept a b =
      each_both IsBack (IsSame l t h) (IsSame l f h) ns both (each_both (IsKept (is_plain ns))
      (IsSame m f g) IsBack ns one (all_kept ns) a) b
    where
      one : (e : Entry) → IsKept (is_plain ns) e → IsSame m f g e → IsBack e
      one (x, meaning.Scalar n i) k s = s ∙ sym (same n.0 k)
      one (x, meaning.Boxed a n) k s = tt
      one (x, meaning.Array a) k s = tt
      one (x, meaning.Loop n) k s = tt

      both : (e : Entry) → IsBack e → IsSame l t h e → IsSame l f h e
      both (x, meaning.Scalar n i) k s = k
      both (x, meaning.Boxed a n) k s = s
      both (x, meaning.Array a) k s = tt
      both (x, meaning.Loop n) k s = tt

pub kernel_end : (d : Layout) (w : Memory) (b : Stmts) (env : Env) (is js : Items) (xs ys : List Statement)
    (loops : List ℕ) (p : Plain) (q : Run) →
    AreQuiet (in_target env) b → Each IsOuter env.names → IsSound d env → AreStatements (in_target env) is b xs →
    AreStatements (plain_env env) js (plain_stmts b) ys → Ended d w env.names p q →
    BothEnd d w env.names
    (option_map (λ t. record p { memory = with_stores t.stores p.memory })
    (run_list xs (view_of d.first p.memory) loops
    (record { scalars = p.scalars; stores = []; input = []; printed = [] })))
    (run_list ys (view_of d.second w) loops q)
kernel_end d w b env is js xs ys loops p q quiet outer sound h k e =
    go (run_list xs (view_of d.first p.memory) loops start) (run_list ys (view_of d.second w) loops q)
    (lists_end d p.memory w mode b (in_target env) is js xs ys loops start q quiet placed
    (record { memory = e.memory; scalars = e.scalars; passed = (refl, refl, λ n l. refl) }) h k)
  where
    start : Run
    start = record { scalars = p.scalars; stores = []; input = []; printed = [] }

    mode : Mode
    mode = InTarget (is_plain env.names) q.input q.printed q.scalars

    placed : IsPlaced d (InTarget (is_plain env.names) q.input q.printed q.scalars) (in_target env)
    placed = record {
      sound = record { boxes = sound.boxes; held = sound.held; fit = sound.fit };
      own = (λ n h. new_number d env.scalars n env.names h sound.held, all_free env.names outer sound.fit);
    }

    go : (o u : Option Run) → Both d p.memory w
        (InTarget (is_plain env.names) q.input q.printed q.scalars) env.names o u →
        BothEnd d w env.names (option_map (λ t. record p { memory = with_stores t.stores p.memory }) o) u
    go None None b = tt
    go (Some r) (Some v) b =
        record {
          memory = b.memory;
          scalars = agree_kept p.memory
              (with_stores r.stores p.memory) p.scalars q.scalars r.scalars v.scalars
              env.names b.passed.2 e.scalars b.scalars;
          input = e.input ∙ sym b.passed.0;
          printed = b.passed.1 ∙ e.printed;
        }
    go None (Some v) b = absurd b
    go (Some r) None b = absurd b

-- What stands before a statement of a text without its directives; what a statement in a target may do.
use Rattle.std.proofs.Common.{◌≡◌, ℕ, ◌+◌, ◌≤◌, Bool, true, false, cond, List, [], ◌∷◌, drop, Option, Some, None, is_some, refl, sym, ap, subst, ◌∙◌, arith}
use Rattle.base.specs.declared.tree.ArrayId.{ArrayId}
use Rattle.base.specs.declared.tree.ScalarId.{ScalarId}
use Rattle.base.specs.declared.tree.Stmt.{Stmt as Statement}
use Rattle.base.specs.Memory.{Memory, Scalars}
use Rattle.c_grammar.specs.Grammar.{Source, Input, Value, Stmt, Declare, Assign, Store, Repeat, Choose, ChooseElse, Show, Block, Directive, Atomic, AtomicAssign, AtomicIf, OverBlock, OverLoop, Stmts, Done, Then}
use Rattle.c_expressions.specs.declared.scope.Meaning.{Meaning}
use Rattle.c_expressions.specs.declared.scope.Meaning.TheVariants as meaning
use Rattle.c_expressions.specs.Means.{Items, Names, meaning_of}
use Rattle.c_statements.specs.Statements.{Env, box_for, scalar_or_box, with_scalar, declared_by, declared_in, more, behind, in_loop, IsStatement}
use Rattle.erasure.specs.Plain.{plain_before, plain_stmts}
use Rattle.erased_meaning.proofs.Entries.{Entry, Each, each_at}
use Rattle.erased_meaning.proofs.Boxes.{Layout, Agree}
use Rattle.erased_meaning.proofs.Apart.{IsSound, sound_more, sound_loop, sound_behind}
use Rattle.erased_meaning.proofs.Values.{plain_meaning, plain_names}
use Rattle.erased_meaning.proofs.Likeness.{Mode, OnHost, InTarget}

abbrev pub plain_env : Env → Env
plain_env env = record env { names = plain_names env.names; boxes = []; inside = false }

-- a statement that has no line of a directive of a part
abbrev pub plain_one : Stmt → Stmt
plain_one (Declare x v) = Declare x v
plain_one (Assign x v) = Assign x v
plain_one (Store x i v) = Store x i v
plain_one (Repeat h b) = Repeat h (plain_stmts b)
plain_one (Choose e a) = Choose e (plain_stmts a)
plain_one (ChooseElse e a b) = ChooseElse e (plain_stmts a) (plain_stmts b)
plain_one (Show e) = Show e
plain_one (Block b) = Block (plain_stmts b)
plain_one (Directive l) = Directive l
plain_one (Atomic l x i v) = Store x i v
plain_one (AtomicAssign l x v) = Assign x v
plain_one (AtomicIf l s) = plain_one s
plain_one (OverBlock l b) = OverBlock l b
plain_one (OverLoop l h b) = OverLoop l h b

pub plain_then : (env : Env) (is : Items) (s : Stmt) (x : Statement) (ss : Stmts) → IsStatement env is s x →
    plain_before s ss ≡ Then (plain_one s) ss
plain_then env is (Declare y v) x ss h = refl
plain_then env is (Assign y v) x ss h = refl
plain_then env is (Store y i v) x ss h = refl
plain_then env is (Repeat g b) x ss h = refl
plain_then env is (Choose e a) x ss h = refl
plain_then env is (ChooseElse e a b) x ss h = refl
plain_then env is (Show e) x ss h = refl
plain_then env is (Block b) x ss h = refl
plain_then env is (Directive l) x ss h = absurd h
plain_then env is (Atomic l y i v) x ss h = refl
plain_then env is (AtomicAssign l y v) x ss h = refl
plain_then env is (AtomicIf l s) x ss h = plain_then env (drop 1 is) s h.0 ss h.1
plain_then env is (OverBlock l b) x ss h = absurd h
plain_then env is (OverLoop l g b) x ss h = absurd h

-- ---- the scalars that are declared

mutual
  pub declared_plain : (b : Stmts) → declared_in (plain_stmts b) ≡ declared_in b
  declared_plain Done = refl
  declared_plain (Then s ss) =
      declared_before s (plain_stmts ss) ∙ ap (λ (n : ℕ). declared_by s + n) (declared_plain ss)

  declared_before : (s : Stmt) (ss : Stmts) → declared_in (plain_before s ss) ≡ declared_by s + declared_in ss
  declared_before (Declare x v) ss = refl
  declared_before (Assign x v) ss = refl
  declared_before (Store x i v) ss = refl
  declared_before (Repeat h b) ss = ap (λ (n : ℕ). n + declared_in ss) (declared_plain b)
  declared_before (Choose e a) ss = ap (λ (n : ℕ). n + declared_in ss) (declared_plain a)
  declared_before (ChooseElse e a b) ss =
      ap (λ (n : ℕ). n + declared_in (plain_stmts b) + declared_in ss) (declared_plain a)
      ∙ ap (λ (n : ℕ). declared_in a + n + declared_in ss) (declared_plain b)
  declared_before (Show e) ss = refl
  declared_before (Block b) ss = ap (λ (n : ℕ). n + declared_in ss) (declared_plain b)
  declared_before (Directive l) ss = omega arith
  declared_before (Atomic l x i v) ss = refl
  declared_before (AtomicAssign l x v) ss = refl
  declared_before (AtomicIf l s) ss = declared_before s ss
  declared_before (OverBlock l b) ss = ap (λ (n : ℕ). n + declared_in ss) (declared_plain b)
  declared_before (OverLoop l h b) ss = ap (λ (n : ℕ). n + declared_in ss) (declared_plain b)

pub more_plain : (n m : ℕ) (env : Env) → n ≡ m → more n (plain_env env) ≡ plain_env (more m env)
more_plain n m env e = ap (λ (k : ℕ). more k (plain_env env)) e

-- no scalar is boxed
pub plain_box : (x : List ℕ) (env : Env) → box_for x (plain_env env) ≡ None
plain_box x env = step (is_some (meaning_of (plain_names env.names) x))
  where
    step : (t : Bool) → let none : Option ArrayId = None in cond t none none ≡ none
    step true = refl
    step false = refl

plain_scalar : (n : ScalarId) (i : Bool) (o : Option ArrayId) →
    plain_meaning (scalar_or_box n i o) ≡ meaning.Scalar n false
plain_scalar n i None = refl
plain_scalar n i (Some a) = refl

pub behind_declared : (x : List ℕ) (env : Env) → with_scalar x (plain_env env) ≡ plain_env (with_scalar x env)
behind_declared x env =
    let n : ScalarId = record { 0 = env.scalars } in
    let new : Meaning → Env =
    λ m. record (plain_env env) { names = (x, m) ∷ plain_names env.names; scalars = env.scalars + 1 } in
    ap (λ (o : Option ArrayId). new (scalar_or_box n false o)) (plain_box x env)
    ∙ ap new (sym (plain_scalar n env.inside (box_for x env)))

pub behind_plain : (env : Env) (is : Items) (s : Stmt) (x : Statement) → IsStatement env is s x →
    behind (plain_one s) (plain_env env) ≡ plain_env (behind s env)
behind_plain env is (Declare y v) x h = behind_declared y env
behind_plain env is (Assign y v) x h = refl
behind_plain env is (Store y i v) x h = refl
behind_plain env is (Repeat g b) x h = more_plain _ _ env (declared_plain b)
behind_plain env is (Choose e a) x h = more_plain _ _ env (declared_plain a)
behind_plain env is (ChooseElse e a b) x h =
    more_plain (declared_in (plain_stmts a) + declared_in (plain_stmts b)) (declared_in a + declared_in b) env
    (ap (λ (n : ℕ). n + declared_in (plain_stmts b)) (declared_plain a)
    ∙ ap (λ (n : ℕ). declared_in a + n) (declared_plain b))
behind_plain env is (Show e) x h = refl
behind_plain env is (Block b) x h = more_plain _ _ env (declared_plain b)
behind_plain env is (Directive l) x h = absurd h
behind_plain env is (Atomic l y i v) x h = refl
behind_plain env is (AtomicAssign l y v) x h = refl
behind_plain env is (AtomicIf l s) x h = behind_plain env (drop 1 is) s h.0 h.1
behind_plain env is (OverBlock l b) x h = absurd h
behind_plain env is (OverLoop l g b) x h = absurd h

-- the names before a statement can be used behind it
pub agree_before : (s : Stmt) (env : Env) (m : Memory) (f g : Scalars) → Agree m f g (behind s env).names →
    Agree m f g env.names
agree_before (Declare x v) env m f g a = a.1
agree_before (Assign x v) env m f g a = a
agree_before (Store x i v) env m f g a = a
agree_before (Repeat h b) env m f g a = a
agree_before (Choose e b) env m f g a = a
agree_before (ChooseElse e b d) env m f g a = a
agree_before (Show e) env m f g a = a
agree_before (Block b) env m f g a = a
agree_before (Directive l) env m f g a = a
agree_before (Atomic l x i v) env m f g a = a
agree_before (AtomicAssign l x v) env m f g a = a
agree_before (AtomicIf l s) env m f g a = agree_before s env m f g a
agree_before (OverBlock l b) env m f g a = a
agree_before (OverLoop l h b) env m f g a = a

-- ---- in a target

abbrev pub IsQuietSource : Source → Type 0
IsQuietSource Input = ⊥
IsQuietSource (Value e) = Unit {0}

-- the name is that of a scalar that is declared inside a target, or boxed
abbrev pub IsInside : Option Meaning → Type 0
IsInside (Some (meaning.Scalar n true)) = Unit {0}
IsInside (Some (meaning.Boxed a n)) = Unit {0}
IsInside _ = ⊥

abbrev mutual
  -- it reads and prints nothing, and assigns no scalar that is declared outside and not boxed
  pub IsQuiet : Env → Stmt → Type 0
  IsQuiet env (Declare x v) = IsQuietSource v
  IsQuiet env (Assign x v) = IsQuietSource v × IsInside (meaning_of env.names x)
  IsQuiet env (Store x i v) = IsQuietSource v
  IsQuiet env (Repeat h b) = AreQuiet (in_loop h.name env) b
  IsQuiet env (Choose e a) = AreQuiet env a
  IsQuiet env (ChooseElse e a b) = AreQuiet env a × AreQuiet (more (declared_in a) env) b
  IsQuiet env (Show e) = ⊥
  IsQuiet env (Block b) = AreQuiet env b
  IsQuiet env (Directive l) = ⊥
  IsQuiet env (Atomic l x i v) = IsQuietSource v
  IsQuiet env (AtomicAssign l x v) = IsQuietSource v × IsInside (meaning_of env.names x)
  IsQuiet env (AtomicIf l s) = IsQuiet env s
  IsQuiet env (OverBlock l b) = ⊥
  IsQuiet env (OverLoop l h b) = ⊥

  pub AreQuiet : Env → Stmts → Type 0
  AreQuiet env Done = Unit {0}
  AreQuiet env (Then s ss) = IsQuiet env s × AreQuiet (behind s env) ss

-- it may be assigned in a target that keeps these scalars
abbrev pub IsFree : (ℕ → Bool) → Entry → Type 0
IsFree kept (x, meaning.Scalar n true) = kept n.0 ≡ false
IsFree kept (x, meaning.Boxed a n) = kept n.0 ≡ false
IsFree kept _ = Unit {0}

abbrev pub AreOwn : Mode → Env → Type 0
AreOwn (OnHost before) env = Unit {0}
AreOwn (InTarget kept input printed scalars) env =
    ((n : ℕ) → env.scalars ≤ n → kept n ≡ false) × Each (IsFree kept) env.names

pub record IsPlaced (d : Layout) (mode : Mode) (env : Env) : Type 0 where
  pub sound : IsSound d env
  pub own : AreOwn mode env

abbrev pub MayDo : Mode → Env → Stmt → Type 0
MayDo (OnHost before) env s = Unit {0}
MayDo (InTarget kept input printed scalars) env s = IsQuiet env s

abbrev pub MayDoAll : Mode → Env → Stmts → Type 0
MayDoAll (OnHost before) env b = Unit {0}
MayDoAll (InTarget kept input printed scalars) env b = AreQuiet env b

pub own_scalar : (kept : ℕ → Bool) (ns : Names) (x : List ℕ) (n : ScalarId) (i : Bool) → Each (IsFree kept) ns →
    meaning_of ns x ≡ Some (meaning.Scalar n i) → IsInside (meaning_of ns x) → kept n.0 ≡ false
own_scalar kept ns x n i a e h = go i (each_at (IsFree kept) ns x (meaning.Scalar n i) a e) (subst IsInside e h)
  where
    go : (i : Bool) → IsFree kept (x, meaning.Scalar n i) → IsInside (Some (meaning.Scalar n i)) → kept n.0 ≡ false
    go true f h = f
    go false f h = absurd h

own_more : (mode : Mode) (n : ℕ) (env : Env) → AreOwn mode env → AreOwn mode (more n env)
own_more (OnHost before) n env p = tt
own_more (InTarget kept input printed scalars) n env p = (λ k h. p.0 k (omega (arith, h)), p.1)

own_new : (mode : Mode) (x : List ℕ) (env : Env) → AreOwn mode env → AreOwn mode (with_scalar x env)
own_new (OnHost before) x env p = tt
own_new (InTarget kept input printed scalars) x env p =
    (λ k h. p.0 k (omega (arith, h)), (new env.inside (box_for x env), p.1))
  where
    new : (i : Bool) (o : Option ArrayId) → IsFree kept (x, scalar_or_box (record { 0 = env.scalars }) i o)
    new true None = p.0 env.scalars (omega arith)
    new false None = tt
    new i (Some a) = p.0 env.scalars (omega arith)

own_behind : (mode : Mode) (s : Stmt) (env : Env) → AreOwn mode env → AreOwn mode (behind s env)
own_behind mode (Declare x v) env p = own_new mode x env p
own_behind mode (Assign x v) env p = own_more mode 0 env p
own_behind mode (Store x i v) env p = own_more mode 0 env p
own_behind mode (Repeat h b) env p = own_more mode (declared_in b) env p
own_behind mode (Choose e b) env p = own_more mode (declared_in b) env p
own_behind mode (ChooseElse e b d) env p = own_more mode (declared_in b + declared_in d) env p
own_behind mode (Show e) env p = own_more mode 0 env p
own_behind mode (Block b) env p = own_more mode (declared_in b) env p
own_behind mode (Directive l) env p = own_more mode 0 env p
own_behind mode (Atomic l x i v) env p = own_more mode 0 env p
own_behind mode (AtomicAssign l x v) env p = own_more mode 0 env p
own_behind mode (AtomicIf l s) env p = own_behind mode s env p
own_behind mode (OverBlock l b) env p = own_more mode (declared_in b) env p
own_behind mode (OverLoop l h b) env p = own_more mode (declared_in b) env p

own_loop : (mode : Mode) (x : List ℕ) (env : Env) → AreOwn mode env → AreOwn mode (in_loop x env)
own_loop (OnHost before) x env p = tt
own_loop (InTarget kept input printed scalars) x env p = (p.0, (tt, p.1))

module _ (d : Layout) (mode : Mode) (env : Env) (p : IsPlaced d mode env) where
  pub placed_behind : (s : Stmt) → IsPlaced d mode (behind s env)
  placed_behind s = record { sound = sound_behind d s env p.sound; own = own_behind mode s env p.own }

  pub placed_more : (n : ℕ) → IsPlaced d mode (more n env)
  placed_more n = record { sound = sound_more d n env p.sound; own = own_more mode n env p.own }

  pub placed_loop : (x : List ℕ) → IsPlaced d mode (in_loop x env)
  placed_loop x = record { sound = sound_loop d x env p.sound; own = own_loop mode x env p.own }

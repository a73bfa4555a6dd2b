-- What stands before a token of a text without its directives: nothing is inside a target, no scalar is boxed, and there
-- are no more statements and arrays.
use Rattle.std.proofs.Common.{◌≡◌, ℕ, suc, ◌+◌, ◌≤◌, Bool, true, false, cond, List, [], ◌∷◌, length, Option, Some, None, refl, ap, ◌∙◌, arith}
use Rattle.std.specs.Prelude.{◌&&◌, ◌||◌, nat_le}
use Rattle.std.specs.Str.{bytes_eq}
use Rattle.std.proofs.lemmas.Bool.Decides.{nat_tests}
use Rattle.base.specs.declared.fault.ReadCode.{ReadCode as Code}
use Rattle.base.specs.declared.fault.ReadCode.TheVariants.{UnknownByte, Unexpected, Undeclared, AlreadyDeclared, BadNumber, BadLength, LoopNameAssigned, BadOperand, TooDeep, TooMany, UnknownDirective, UnknownClause, ClauseCount, BadMapType, BadBound, ArrayTwice, DirectiveInTarget, OuterAssigned, HostOnly, NoBody, DirectiveUnderIf, BadDevice}
use Rattle.c_tokens.specs.declared.kind.Sign.TheVariants as sign
use Rattle.c_grammar.specs.Terminal.{Terminal, Fixed, Mark, Name, Num, Line, Unknown, Unworked, End, same}
use Rattle.c_grammar.specs.Grammar.{Act, Plain, DeclaresGlobal, DeclaresLocal, DeclaresLoop, MakesArray, MakesScalar, Length, Limit, Step, Starts, StartsIf, Prints, Assigned, StartsBlock, Otherwise, Reads, Opens, Closes, Alone, Over, Marks, Boxes, Operand, OpensBracket, ClosesBracket, Divisor, Count, Inner}
use Rattle.c_grammar.specs.Rules.{Context, declared, opened, out, begun, Frame, Sort, AnArray, AScalar, ABoxed, ALoop, max_arrays, max_scalars, max_statements, top, below, with_name, is_boxed, scalar_sort, inside, act, found, sort_in, sort_of, sort_at, is_array, is_scalar, is_visible, is_loop, breaks_act}

abbrev pub is_line_terminal : Terminal → Bool
is_line_terminal (Line ts) = true
is_line_terminal _ = false

-- ---- nothing is inside a target, and no scalar is boxed

abbrev pub plain_sort : Sort → Sort
plain_sort AnArray = AnArray
plain_sort (AScalar i) = AScalar false
plain_sort ABoxed = AScalar false
plain_sort ALoop = ALoop

abbrev pub plain_names : List (List ℕ × Sort) → List (List ℕ × Sort)
plain_names [] = []
plain_names (n ∷ ns) = (n.0, plain_sort n.1) ∷ plain_names ns

abbrev pub plain_frames : List Frame → List Frame
plain_frames [] = []
plain_frames (f ∷ fs) = record { names = plain_names f.names; inside = false; choice = f.choice } ∷ plain_frames fs

-- with so many statements and arrays
abbrev pub plain : ℕ → ℕ → Context → Context
plain n a c = record c { frames = plain_frames c.frames; boxes = []; target = false; arrays = a; statements = n }

-- ---- what is known of names is the same

abbrev plain_known : Option Sort → Option Sort
plain_known None = None
plain_known (Some s) = Some (plain_sort s)

plain_found : (x : List ℕ) (ns : List (List ℕ × Sort)) (o : Option Sort) →
    found x (plain_names ns) (plain_known o) ≡ plain_known (found x ns o)
plain_found x [] o = refl
plain_found x (n ∷ ns) o = step (bytes_eq n.0 x) (plain_found x ns o)
  where
    step : (t : Bool) → found x (plain_names ns) (plain_known o) ≡ plain_known (found x ns o) →
        cond t (Some (plain_sort n.1)) (found x (plain_names ns) (plain_known o))
        ≡ plain_known (cond t (Some n.1) (found x ns o))
    step true ih = refl
    step false ih = ih

plain_sort_in : (fs : List Frame) (x : List ℕ) → sort_in (plain_frames fs) x ≡ plain_known (sort_in fs x)
plain_sort_in [] x = refl
plain_sort_in (f ∷ fs) x =
    ap (λ (o : Option Sort). found x (plain_names f.names) o) (plain_sort_in fs x) ∙ plain_found x f.names (sort_in fs x)

plain_sort_at : (n a : ℕ) (c : Context) (t : Terminal) → sort_at (plain n a c) t ≡ plain_known (sort_at c t)
unfolding sort_of
plain_sort_at n a c (Name x) = plain_sort_in c.frames x
plain_sort_at n a c (Fixed w) = refl
plain_sort_at n a c (Mark s) = refl
plain_sort_at n a c (Num v) = refl
plain_sort_at n a c (Line ts) = refl
plain_sort_at n a c Unknown = refl
plain_sort_at n a c Unworked = refl
plain_sort_at n a c End = refl

array_same : (o : Option Sort) → is_array (plain_known o) ≡ is_array o
array_same None = refl
array_same (Some AnArray) = refl
array_same (Some (AScalar i)) = refl
array_same (Some ABoxed) = refl
array_same (Some ALoop) = refl

scalar_same : (o : Option Sort) → is_scalar (plain_known o) ≡ is_scalar o
scalar_same None = refl
scalar_same (Some AnArray) = refl
scalar_same (Some (AScalar i)) = refl
scalar_same (Some ABoxed) = refl
scalar_same (Some ALoop) = refl

visible_same : (o : Option Sort) → is_visible (plain_known o) ≡ is_visible o
visible_same None = refl
visible_same (Some s) = refl

loop_same : (o : Option Sort) → is_loop (plain_known o) ≡ is_loop o
loop_same None = refl
loop_same (Some AnArray) = refl
loop_same (Some (AScalar i)) = refl
loop_same (Some ABoxed) = refl
loop_same (Some ALoop) = refl

pub depth_same : (fs : List Frame) → length (plain_frames fs) ≡ length fs
depth_same [] = refl
depth_same (f ∷ fs) = ap suc (depth_same fs)

not_inside : (fs : List Frame) → (top (plain_frames fs)).inside ≡ false
not_inside [] = refl
not_inside (f ∷ fs) = refl

choice_same : (fs : List Frame) → (top (plain_frames fs)).choice ≡ (top fs).choice
choice_same [] = refl
choice_same (f ∷ fs) = refl

pub no_more : (n m limit : ℕ) → n ≤ m → nat_le limit m ≡ false → nat_le limit n ≡ false
no_more n m limit h e = grind (arith, nat_tests)

-- ---- no other rule is broken

module _ (c : Context) (n a : ℕ) (h : n ≤ c.statements) (g : a ≤ c.arrays) (t next : Terminal) where
  arrays : is_array (sort_at (plain n a c) t) ≡ is_array (sort_at c t)
  arrays = ap is_array (plain_sort_at n a c t) ∙ array_same (sort_at c t)

  scalars : is_scalar (sort_at (plain n a c) t) ≡ is_scalar (sort_at c t)
  scalars = ap is_scalar (plain_sort_at n a c t) ∙ scalar_same (sort_at c t)

  visible : is_visible (sort_at (plain n a c) t) ≡ is_visible (sort_at c t)
  visible = ap is_visible (plain_sort_at n a c t) ∙ visible_same (sort_at c t)

  loops : is_loop (sort_at (plain n a c) t) ≡ is_loop (sort_at c t)
  loops = ap is_loop (plain_sort_at n a c t) ∙ loop_same (sort_at c t)

  outer_free : (b o : Bool) → (b && inside (plain n a c) && o) ≡ false
  outer_free true o = ap (λ (u : Bool). u && o) (not_inside c.frames)
  outer_free false o = refl

  named : (x : List ℕ) → is_visible (sort_of (plain n a c) x) ≡ is_visible (sort_of c x)
  named x = ap is_visible (plain_sort_at n a c (Name x)) ∙ visible_same (sort_of c x)

  fewer : (array scalar : Bool) →
      ((array && nat_le max_arrays c.arrays) || (scalar && nat_le max_scalars c.scalars)) ≡ false →
      ((array && nat_le max_arrays a) || (scalar && nat_le max_scalars c.scalars)) ≡ false
  fewer array scalar e = grind (arith, nat_tests)

  pub plain_breaks : (code : Code) (r : Act) → breaks_act code c t r next ≡ false →
      breaks_act code (plain n a c) t r next ≡ false
  plain_breaks Undeclared Operand e = rw (arrays, scalars) e
  plain_breaks Undeclared Assigned e = rw (visible, arrays, scalars) e
  plain_breaks Undeclared _ e = e
  plain_breaks AlreadyDeclared DeclaresGlobal e = visible ∙ e
  plain_breaks AlreadyDeclared DeclaresLocal e = visible ∙ e
  plain_breaks AlreadyDeclared DeclaresLoop e = visible ∙ e
  plain_breaks AlreadyDeclared _ e = e
  plain_breaks BadLength Length e = e
  plain_breaks BadLength _ e = e
  plain_breaks LoopNameAssigned Assigned e = rw loops e
  plain_breaks LoopNameAssigned _ e = e
  plain_breaks BadOperand Step e = e
  plain_breaks BadOperand Divisor e = e
  plain_breaks BadOperand Count e = e
  plain_breaks BadOperand _ e = e
  plain_breaks TooDeep StartsBlock e = rw (depth_same c.frames) e
  plain_breaks TooDeep Opens e = rw (depth_same c.frames) e
  plain_breaks TooDeep OpensBracket e = e
  plain_breaks TooDeep _ e = e
  plain_breaks TooMany Starts e = no_more n c.statements max_statements h e
  plain_breaks TooMany StartsIf e = no_more n c.statements max_statements h e
  plain_breaks TooMany Prints e = no_more n c.statements max_statements h e
  plain_breaks TooMany Assigned e = no_more n c.statements max_statements h e
  plain_breaks TooMany StartsBlock e = no_more n c.statements max_statements h e
  plain_breaks TooMany Alone e = no_more n c.statements max_statements h e
  plain_breaks TooMany Over e = no_more n c.statements max_statements h e
  plain_breaks TooMany Marks e = no_more n c.statements max_statements h e
  plain_breaks TooMany DeclaresGlobal e = fewer (same (Mark sign.OpenBracket) next) (same (Mark sign.Semicolon) next) e
  plain_breaks TooMany _ e = e
  plain_breaks DirectiveInTarget Alone e = not_inside c.frames
  plain_breaks DirectiveInTarget Over e = not_inside c.frames
  plain_breaks DirectiveInTarget _ e = e
  plain_breaks DirectiveUnderIf Alone e = choice_same c.frames ∙ e
  plain_breaks DirectiveUnderIf Over e = choice_same c.frames ∙ e
  plain_breaks DirectiveUnderIf _ e = e
  plain_breaks BadDevice _ e = e
  plain_breaks OuterAssigned Assigned e = outer_free (same (Mark sign.Equal) next) _
  plain_breaks OuterAssigned _ e = e
  plain_breaks HostOnly Prints e = not_inside c.frames
  plain_breaks HostOnly Reads e = not_inside c.frames
  plain_breaks HostOnly _ e = e
  plain_breaks UnknownByte r e = refl
  plain_breaks Unexpected r e = refl
  plain_breaks BadNumber r e = refl
  plain_breaks UnknownDirective r e = refl
  plain_breaks UnknownClause r e = refl
  plain_breaks ClauseCount r e = refl
  plain_breaks BadMapType r e = refl
  plain_breaks BadBound r e = refl
  plain_breaks ArrayTwice r e = refl
  plain_breaks NoBody r e = refl

-- ---- the context goes on

-- it stands for the other, with no more statements and arrays
abbrev pub Follows : Context → Context → Type 0
Follows c d = (n : ℕ) × (a : ℕ) × (d ≡ plain n a c) × (n ≤ c.statements) × (a ≤ c.arrays)

plain_named : (o : Option (List ℕ)) (s : Sort) (ns : List (List ℕ × Sort)) →
    with_name o (plain_sort s) (plain_names ns) ≡ plain_names (with_name o s ns)
plain_named None s ns = refl
plain_named (Some x) s ns = refl

frame_declared : (o : Option (List ℕ)) (s : Sort) (fs : List Frame) →
    record {
      names = with_name o (plain_sort s) (top (plain_frames fs)).names;
      inside = (top (plain_frames fs)).inside;
      choice = (top (plain_frames fs)).choice;
    } ∷ below (plain_frames fs)
    ≡ plain_frames (record { names = with_name o s (top fs).names; inside = (top fs).inside; choice = (top fs).choice } ∷ below fs)
frame_declared o s [] =
    ap (λ (ns : List (List ℕ × Sort)). record { names = ns; inside = false; choice = false } ∷ []) (plain_named o s [])
frame_declared o s (f ∷ fs) =
    ap (λ (ns : List (List ℕ × Sort)). record { names = ns; inside = false; choice = f.choice } ∷ plain_frames fs)
    (plain_named o s f.names)

frame_opened : (o : Option (List ℕ)) (b : Bool) (fs : List Frame) →
    record {
      names = with_name o ALoop [];
      inside = (top (plain_frames fs)).inside || false;
      choice = (top (plain_frames fs)).choice || b;
    } ∷ plain_frames fs
    ≡ record { names = plain_names (with_name o ALoop []); inside = false; choice = (top fs).choice || b } ∷ plain_frames fs
frame_opened None b fs = rw (not_inside fs, choice_same fs) refl
frame_opened (Some x) b fs = rw (not_inside fs, choice_same fs) refl

frames_below : (fs : List Frame) → below (plain_frames fs) ≡ plain_frames (below fs)
frames_below [] = refl
frames_below (f ∷ fs) = refl

declared_same : (s : Sort) (n a : ℕ) (c : Context) → declared (plain_sort s) (plain n a c) ≡ plain n a (declared s c)
declared_same s n a c =
    ap (λ (fs : List Frame). record c {
      frames = fs;
      boxes = [];
      fresh = None;
      target = false;
      arrays = a;
      statements = n;
    })
    (frame_declared c.fresh s c.frames)

pub opened_same : (n a : ℕ) (c : Context) → opened (plain n a c) ≡ plain n a (opened c)
opened_same n a c =
    ap (λ (fs : List Frame). record c {
      frames = fs;
      boxes = [];
      turn = None;
      target = false;
      choice = false;
      arrays = a;
      statements = n;
    })
    (frame_opened c.turn c.choice c.frames)

none_boxed : (n a : ℕ) (c : Context) (o : Option (List ℕ)) → is_boxed (plain n a c) o ≡ false
none_boxed n a c None = refl
none_boxed n a c (Some x) = rw (not_inside c.frames) refl

sort_same : (n a : ℕ) (c : Context) → scalar_sort (plain n a c) ≡ plain_sort (scalar_sort c)
sort_same n a c =
    ap (λ (b : Bool). cond b ABoxed (AScalar (inside (plain n a c)))) (none_boxed n a c c.fresh)
    ∙ ap (λ (i : Bool). AScalar i) (not_inside c.frames) ∙ plain_one (is_boxed c c.fresh)
  where
    plain_one : (b : Bool) → AScalar false ≡ plain_sort (cond b ABoxed (AScalar (inside c)))
    plain_one true = refl
    plain_one false = refl

scalar_named : (n a m : ℕ) (c : Context) →
    declared (scalar_sort (plain n a c)) (record (out (plain n a c)) { scalars = m })
    ≡ plain n a (declared (scalar_sort c) (record (out c) { scalars = m }))
scalar_named n a m c =
    ap (λ (s : Sort). declared s (record (out (plain n a c)) { scalars = m })) (sort_same n a c)
    ∙ declared_same (scalar_sort c) n a (record (out c) { scalars = m })

pub plain_enter : (c : Context) (n a : ℕ) (t : Terminal) (r : Act) → n ≤ c.statements → a ≤ c.arrays →
    is_line_terminal t ≡ false → Follows (act c t r) (act (plain n a c) t r)
plain_enter c n a t Plain h g l = (n, a, refl, h, g)
plain_enter c n a t DeclaresGlobal h g l = (n, a, refl, h, g)
plain_enter c n a t DeclaresLocal h g l = (n, a, refl, h, g)
plain_enter c n a t DeclaresLoop h g l = (n, a, refl, h, g)
plain_enter c n a t MakesArray h g l =
    (n, a + 1, declared_same AnArray n (a + 1) (record (out c) { arrays = c.arrays + 1 }), h, omega (arith, g))
plain_enter c n a t MakesScalar h g l = (n, a, scalar_named n a (c.scalars + 1) c, h, g)
plain_enter c n a t Length h g l = (n, a, refl, h, g)
plain_enter c n a t Limit h g l = (n, a, refl, h, g)
plain_enter c n a t Step h g l = (n, a, refl, h, g)
plain_enter c n a t Starts h g l = (n + 1, a, refl, omega (arith, h), g)
plain_enter c n a t StartsIf h g l = (n + 1, a, refl, omega (arith, h), g)
plain_enter c n a t Prints h g l = (n + 1, a, refl, omega (arith, h), g)
plain_enter c n a t Assigned h g l = (n + 1, a, refl, omega (arith, h), g)
plain_enter c n a t StartsBlock h g l = (n + 1, a, opened_same (n + 1) a (begun (out c)), omega (arith, h), g)
plain_enter c n a t Otherwise h g l = (n, a, refl, h, g)
plain_enter c n a t Reads h g l = (n, a, refl, h, g)
plain_enter c n a t Opens h g l = (n, a, opened_same n a (out c), h, g)
plain_enter c n a t Closes h g l = (
  n,
  a,
  ap (λ (fs : List Frame). record (out c) { frames = fs; boxes = []; target = false; arrays = a; statements = n })
      (frames_below c.frames),
  h,
  g,
)
plain_enter c n a t Alone h g l = (n + 1, a, refl, omega (arith, h), g)
plain_enter c n a (Fixed w) Over h g l = (n + 1, a, refl, omega (arith, h), g)
plain_enter c n a (Mark s) Over h g l = (n + 1, a, refl, omega (arith, h), g)
plain_enter c n a (Name x) Over h g l = (n + 1, a, refl, omega (arith, h), g)
plain_enter c n a (Num v) Over h g l = (n + 1, a, refl, omega (arith, h), g)
plain_enter c n a Unknown Over h g l = (n + 1, a, refl, omega (arith, h), g)
plain_enter c n a Unworked Over h g l = (n + 1, a, refl, omega (arith, h), g)
plain_enter c n a End Over h g l = (n + 1, a, refl, omega (arith, h), g)
plain_enter c n a (Line ts) Over h g l = absurd cc
plain_enter c n a t Marks h g l = (n + 1, a, refl, omega (arith, h), g)
plain_enter c n a (Fixed w) Boxes h g l = (n, a + 0, refl, h, omega (arith, g))
plain_enter c n a (Mark s) Boxes h g l = (n, a + 0, refl, h, omega (arith, g))
plain_enter c n a (Name x) Boxes h g l = (n, a + 0, refl, h, omega (arith, g))
plain_enter c n a (Num v) Boxes h g l = (n, a + 0, refl, h, omega (arith, g))
plain_enter c n a Unknown Boxes h g l = (n, a + 0, refl, h, omega (arith, g))
plain_enter c n a Unworked Boxes h g l = (n, a + 0, refl, h, omega (arith, g))
plain_enter c n a End Boxes h g l = (n, a + 0, refl, h, omega (arith, g))
plain_enter c n a (Line ts) Boxes h g l = absurd cc
plain_enter c n a t Operand h g l = (n, a, refl, h, g)
plain_enter c n a t OpensBracket h g l = (n, a, refl, h, g)
plain_enter c n a t ClosesBracket h g l = (n, a, refl, h, g)
plain_enter c n a t Divisor h g l = (n, a, refl, h, g)
plain_enter c n a t Count h g l = (n, a, refl, h, g)
plain_enter c n a t Inner h g l = (n, a, refl, h, g)

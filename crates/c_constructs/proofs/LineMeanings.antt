-- What a directive means by the columns of its line, and by the numbers of its tokens.
use Rattle.std.proofs.Common.{◌≡◌, ℕ, ◌+◌, List, [], ◌∷◌, ◌++◌, length, map, drop, None, refl, sym, ap, ◌∙◌, subst, arith}
use Rattle.base.specs.declared.tree.Tasking.{Tasking}
use Rattle.base.specs.declared.tree.MapText.{MapText}
use Rattle.base.specs.declared.tree.RegionKind.{RegionKind}
use Rattle.base.specs.declared.tree.Target.{Target}
use Rattle.base.specs.declared.tree.Data.{Data}
use Rattle.base.specs.declared.tree.Directive.{Directive}
use Rattle.base.specs.declared.tree.Directive.TheVariants as directive
use Rattle.c_grammar.specs.Lexeme.{Lexeme, Placed as PlacedLexeme, Ended}
use Rattle.c_grammar.specs.LineGrammar as line
use Rattle.c_grammar.specs.Terminal.{Terminal, Line}
use Rattle.c_grammar.specs.Texts.{Item}
use Rattle.c_expressions.specs.Means.{Items, Names, place_of}
use Rattle.directives.specs.declared.tree.Directive.{Directive as Given}
use Rattle.directives.specs.declared.tree.DirectiveKind.{DirectiveKind as GivenKind}
use Rattle.directives.specs.declared.tree.DirectiveKind.TheVariants as kind
use Rattle.directives.specs.declared.tree.Construct.TheVariants as construct
use Rattle.directives.specs.Cursor.{item_of, line_items}
use Rattle.directives.specs.Kinds.{seen_kind}
use Rattle.directives.specs.Spells.{SpellsLine, kinds_of, columns_of}
use Rattle.directives.specs.Trees.{Spelling, text_of, head_marks, clauses_marks, line_marks}
use Rattle.c_constructs.specs.Directives.{IsTaskingAt, IsAloneAt, IsTargetAt, IsDataAt, AreRegionMapsAt}
use Rattle.c_constructs.specs.LineMeaning.{lexemes_on}
use Rattle.c_constructs.specs.Sections.{all_given, map_given, depend_given, motion_given}
use Rattle.c_constructs.specs.Written.{seen_region, seen_enter, seen_exit, maps_from, depends_from, motions_from, clauses_at, IsTasking, IsTarget, IsData, IsAlone, AreRegionMaps}
use Rattle.c_constructs.proofs.Placing.{Placed, placed_fit, placed_behind, AreWritten}
use Rattle.c_constructs.proofs.Matching.{maps_written, depends_written, motions_written, maps_placed, updates_placed, depends_placed}

-- ---- the line

columns_same : (ps : List PlacedLexeme) → map (λ i. i.column) (map item_of ps) ≡ columns_of ps
columns_same [] = refl
columns_same (p ∷ ps) = ap (λ (ks : List ℕ). p.column ∷ ks) (columns_same ps)

kinds_same : (ps : List PlacedLexeme) → map (λ i. i.terminal) (map item_of ps) ≡ kinds_of ps
kinds_same [] = refl
kinds_same (p ∷ ps) = ap (λ (ts : List Lexeme). p.lexeme ∷ ts) (kinds_same ps)

-- the tokens that spell the directive stand at the columns of the line's tokens
pub line_placed : (l : List PlacedLexeme) (d : Given) → SpellsLine l d →
    Placed (line_marks d) (columns_of l)
line_placed l d s =
    subst (λ (ks : List ℕ). Placed (line_marks d) ks) (columns_same l)
    (placed_fit (line_marks d) (line_items l) [] s.placed.fits)

-- the tokens of the directive's tree are those of the line
pub line_tokens : (l : List PlacedLexeme) (d : Given) (t : Terminal) → t ≡ Line (kinds_of l) →
    SpellsLine l d → map (λ x. x.0) (line.line_slots (text_of d)) ≡ lexemes_on t
line_tokens l d t e s = sym s.spelled.tokens ∙ kinds_same l ∙ ap lexemes_on (sym e)

-- ---- behind the directive's words

len_head : (k : GivenKind) → length (head_marks k) ≡ 2 + length (line.head (seen_kind k))
len_head kind.Target = refl
len_head kind.TargetData = refl
len_head kind.TargetEnterData = refl
len_head kind.TargetExitData = refl
len_head kind.TargetUpdate = refl
len_head (kind.Combined construct.Simd) = refl
len_head (kind.Combined construct.ParallelFor) = refl
len_head (kind.Combined construct.ParallelForSimd) = refl
len_head (kind.Combined construct.ParallelLoop) = refl
len_head (kind.Combined construct.TeamsDistribute) = refl
len_head (kind.Combined construct.TeamsDistributeSimd) = refl
len_head (kind.Combined construct.TeamsDistributeParallelFor) = refl
len_head (kind.Combined construct.TeamsDistributeParallelForSimd) = refl
len_head (kind.Combined construct.TeamsLoop) = refl
len_head kind.TaskWait = refl
len_head kind.AtomicUpdate = refl

ends : Spelling
ends = (Ended, None) ∷ []

clauses_placed : (d : Given) (cs : List ℕ) → Placed (line_marks d) cs →
    Placed (clauses_marks d.clauses.items ++ ends) (drop (clauses_at (text_of d)) cs)
unfolding line_marks ends
clauses_placed d cs p =
    let at : Placed (clauses_marks d.clauses.items ++ ends) (drop (0 + clauses_at (text_of d)) cs) =
    placed_behind (head_marks d.kind) (clauses_marks d.clauses.items ++ ends) cs 0 (clauses_at (text_of d))
    (len_head d.kind) p in
    let e : 0 + clauses_at (text_of d) ≡ clauses_at (text_of d) = omega arith in
    subst (λ (n : ℕ). Placed (clauses_marks d.clauses.items ++ ends) (drop n cs)) e at

-- ---- what the clauses mean

maps_at : (d : Given) (cs : List ℕ) → Placed (line_marks d) cs →
    AreWritten cs (all_given map_given d.clauses.items) (maps_from (clauses_at (text_of d)) (text_of d).clauses)
maps_at d cs p = maps_written d.clauses.items ends (clauses_at (text_of d)) cs (clauses_placed d cs p)

motions_at : (d : Given) (cs : List ℕ) → Placed (line_marks d) cs →
    AreWritten cs (all_given motion_given d.clauses.items) (motions_from (clauses_at (text_of d)) (text_of d).clauses)
motions_at d cs p = motions_written d.clauses.items ends (clauses_at (text_of d)) cs (clauses_placed d cs p)

depends_at : (d : Given) (cs : List ℕ) → Placed (line_marks d) cs →
    AreWritten cs (all_given depend_given d.clauses.items) (depends_from (clauses_at (text_of d)) (text_of d).clauses)
depends_at d cs p = depends_written d.clauses.items ends (clauses_at (text_of d)) cs (clauses_placed d cs p)

tasking_means : (names : Names) (i : Item Terminal) (is : Items) (d : Given) (g : Tasking) →
    Placed (line_marks d) i.columns → IsTaskingAt names i.line d.clauses.items g →
    IsTasking names (i ∷ is) (text_of d) g
tasking_means names i is d g p h = record {
  nowait = h.nowait;
  depends = depends_placed names i is (all_given depend_given d.clauses.items)
      (depends_from (clauses_at (text_of d)) (text_of d).clauses) g.depends.items (depends_at d i.columns p) h.depends;
  device = h.device;
}

maps_mean : (names : Names) (i : Item Terminal) (is : Items) (d : Given) (ms : List (MapText RegionKind)) →
    Placed (line_marks d) i.columns → AreRegionMapsAt names i.line d.clauses.items ms →
    AreRegionMaps names (i ∷ is) (text_of d) ms
maps_mean names i is d ms p h =
    maps_placed seen_region names i is (all_given map_given d.clauses.items)
    (maps_from (clauses_at (text_of d)) (text_of d).clauses) ms (maps_at d i.columns p) h

pub target_means : (names : Names) (i : Item Terminal) (is : Items) (d : Given) (g : Target) →
    Placed (line_marks d) i.columns → IsTargetAt names (place_of (i ∷ is)) d g → IsTarget names (i ∷ is) (text_of d) g
target_means names i is d g p h = record {
  kind = h.kind;
  place = h.place;
  maps = maps_mean names i is d g.maps.items p h.maps;
  tasking = tasking_means names i is d g.tasking p h.tasking;
}

pub data_means : (names : Names) (i : Item Terminal) (is : Items) (d : Given) (g : Data) →
    Placed (line_marks d) i.columns → IsDataAt names (place_of (i ∷ is)) d g → IsData names (i ∷ is) (text_of d) g
data_means names i is d g p h = record {
  kind = h.kind;
  place = h.place;
  maps = maps_mean names i is d g.maps.items p h.maps;
  device = h.device;
}

pub alone_means : (names : Names) (i : Item Terminal) (is : Items) (d : Given) (t : Directive) →
    Placed (line_marks d) i.columns → IsAloneAt names i.line d t → IsAlone names (i ∷ is) (text_of d) t
alone_means names i is d (directive.Enter maps g) p h = (
  h.0,
  maps_placed seen_enter names i is (all_given map_given d.clauses.items)
      (maps_from (clauses_at (text_of d)) (text_of d).clauses) maps.items (maps_at d i.columns p) h.1,
  tasking_means names i is d g p h.2,
)
alone_means names i is d (directive.Exit maps g) p h = (
  h.0,
  maps_placed seen_exit names i is (all_given map_given d.clauses.items)
      (maps_from (clauses_at (text_of d)) (text_of d).clauses) maps.items (maps_at d i.columns p) h.1,
  tasking_means names i is d g p h.2,
)
alone_means names i is d (directive.Update sections g) p h = (
  h.0,
  updates_placed names i is (all_given motion_given d.clauses.items)
      (motions_from (clauses_at (text_of d)) (text_of d).clauses) sections.items (motions_at d i.columns p) h.1,
  tasking_means names i is d g p h.2,
)
alone_means names i is d (directive.Wait depends) p h = (
  h.0,
  depends_placed names i is (all_given depend_given d.clauses.items)
      (depends_from (clauses_at (text_of d)) (text_of d).clauses) depends.items (depends_at d i.columns p) h.1,
)

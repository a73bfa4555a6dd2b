-- A program of the text without directives does what a program of the text does without its directives.
use Rattle.std.proofs.Common.{◌≡◌, ℕ, suc, List, [], ◌∷◌, ◌++◌, length, map, drop, Option, Some, None, refl, sym, ap, subst, ◌∙◌, append-nil}
use Rattle.std.specs.Prelude.{option_and_then, option_map}
use Rattle.std.specs.declared.string.String.{String}
use Rattle.std.proofs.lemmas.Option.{same_Some}
use Rattle.base.specs.declared.tree.ArrayInfo.{ArrayInfo}
use Rattle.base.specs.declared.tree.Part.{Part}
use Rattle.base.specs.declared.tree.Part.TheVariants as part
use Rattle.base.specs.declared.tree.Program.{Program}
use Rattle.base.specs.declared.tree.Stmt.{Stmt as Statement}
use Rattle.base.specs.Memory.{view_of, zeros}
use Rattle.base.specs.Meaning.{Run, Plain, run_list, after_region, erased, lengths_of}
use Rattle.c_grammar.specs.Grammar.{Text, Stmts}
use Rattle.c_source.specs.Source.{items_of}
use Rattle.c_source.proofs.Sources.{one_text}
use Rattle.c_expressions.specs.declared.scope.Meaning.TheVariants as meaning
use Rattle.c_expressions.specs.Means.{Items, Names}
use Rattle.c_statements.specs.Statements.{Env, AreStatements}
use Rattle.c_read.specs.Globals.{no_front, behind_globals, arrays_in, boxes_in, boxes_of_text, entry_of, front_of_text}
use Rattle.c_read.specs.Parts.{ArePieces, pieces_of}
use Rattle.c_read.specs.Spells.{IsProgram, front_size}
use Rattle.erasure.specs.Erased.{erased_text}
use Rattle.erasure.specs.Plain.{plain_stmts, plain_tree}
use Rattle.erasure.proofs.Spelled.{spells_plain}
use Rattle.erased_meaning.specs.Laws.{SameEnd, SameRun, IsErased, ErasedTextRuns, IsOneRegion}
use Rattle.erased_meaning.proofs.Entries.{Entry}
use Rattle.erased_meaning.proofs.Boxes.{Layout, IsSame, Agree}
use Rattle.erased_meaning.proofs.Envs.{plain_env}
use Rattle.erased_meaning.proofs.Parts.{Ended, BothEnd, fresh, parts_run, parts_list}
use Rattle.erased_meaning.proofs.Outside.{AreSafe, IsOutside}
use Rattle.erased_meaning.proofs.Pieces.{texts_alike}
use Rattle.erased_meaning.proofs.Layouts.{ones, layout_of}
use Rattle.erased_meaning.proofs.Globals.{arrays_counted, text_outside, text_plain, bare_plain, main_safe}
use Rattle.erased_meaning.proofs.PlainTrees.{plain_bare, AreOneRegion, one_region}

-- ---- the end of the run

abbrev first : List ℕ → Plain
first input = record { memory = zeros; scalars = λ x. 0; input = input; printed = [] }

module _ (d : Layout) where
  same_end : (names : Names) (input : List ℕ) (p : Plain) (r : Run) → Ended d zeros names p r →
      SameEnd d.arrays p (after_region (first input) r)
  same_end names input p r e = record { memory = e.memory; input = e.input; printed = sym e.printed }

  none_end : (names : Names) (input : List ℕ) (o : Option Plain) →
      BothEnd d zeros names o (Some (fresh (first input))) →
      SameRun d.arrays o (Some (first input))
  none_end names input None b = absurd b
  none_end names input (Some p) b = record { memory = b.memory; input = b.input; printed = sym b.printed }

  region_end : (lengths : List ℕ) (names : Names) (input : List ℕ) (o : Option Plain) (u : Option Run) →
      BothEnd d zeros names o u →
      SameRun d.arrays o (option_and_then (parts_run lengths [] []) (option_map (after_region (first input)) u))
  region_end lengths names input None None b = tt
  region_end lengths names input (Some p) (Some r) b = same_end names input p r b
  region_end lengths names input None (Some r) b = absurd b
  region_end lengths names input (Some p) None b = absurd b

-- ---- the parts of both programs

agree_zeros : (ns : Names) → Agree zeros (λ x. 0) (λ x. 0) ns
agree_zeros [] = tt
agree_zeros (n ∷ ns) = (one n, agree_zeros ns)
  where
    one : (n : Entry) → IsSame zeros (λ x. 0) (λ x. 0) n
    one (x, meaning.Scalar k i) = refl
    one (x, meaning.Boxed a k) = refl
    one (x, meaning.Array a) = tt
    one (x, meaning.Loop k) = tt

module _ (d : Layout) (env bare : Env) (is js : Items) (b : Stmts) (ps : List Part) (input : List ℕ)
    (safe : AreSafe env b) (out : IsOutside d env)
    (plain : plain_env env ≡ bare) (pieces : ArePieces env is b (pieces_of ps)) where
  begins : Ended d zeros env.names (first input) (fresh (first input))
  begins = record { memory = λ c h. refl; scalars = agree_zeros env.names; input = refl; printed = refl }

  alike : (ys : List Statement) → AreStatements bare js (plain_stmts b) ys →
      BothEnd d zeros env.names (parts_run d.first ps [] (first input))
      (run_list ys (view_of d.second zeros) [] (fresh (first input)))
  alike ys k =
      texts_alike d zeros b env is js ps ys [] (first input) (fresh (first input)) safe out pieces
      (subst (λ (v : Env). AreStatements v js (plain_stmts b) ys) (sym plain) k) begins

  runs : (qs : List Part) → AreOneRegion bare js (plain_stmts b) qs →
      SameRun d.arrays (parts_run d.first ps [] (first input)) (parts_run d.second qs [] (first input))
  runs [] k = none_end d env.names input (parts_run d.first ps [] (first input)) (alike [] k)
  runs (part.Host r ∷ []) k =
      region_end d d.second env.names input (parts_run d.first ps [] (first input))
      (run_list r.body.items (view_of d.second zeros) [] (fresh (first input)))
      (alike r.body.items k)
  runs (part.Host r ∷ x ∷ qs) k = absurd k
  runs (part.Block' c row ∷ qs) k = absurd k
  runs (part.Loop' a c row ∷ qs) k = absurd k
  runs (part.Target t r ∷ qs) k = absurd k
  runs (part.Data' g c row ∷ qs) k = absurd k
  runs (part.Alone at t ∷ qs) k = absurd k

-- ---- the lengths of the arrays

abbrev lengths_in : {Z : Type 0} → List (String Z × ArrayInfo) → List ℕ
lengths_in es = map (λ a. a.length) (map (λ e. e.1) es)

-- those of one cell behind some others
module _ {Y Z : Type 0} where
  more_lengths : (es : List (String Y × ArrayInfo)) (fs : List (String Z × ArrayInfo)) (xs : List (List ℕ)) →
      map entry_of es ≡ map entry_of fs ++ map (λ x. (x, Some 1)) xs → lengths_in es ≡ lengths_in fs ++ ones xs
  more_lengths [] [] [] h = refl
  more_lengths (e ∷ es) [] (x ∷ xs) h =
      let head : entry_of e ≡ (x, Some 1) = cc in
      let tail : map entry_of es ≡ map (λ x. (x, Some 1)) xs = cc in
      let size : e.1.length ≡ 1 = same_Some e.1.length 1 (ap (λ (u : List ℕ × Option ℕ). u.1) head) in
      ap (λ (n : ℕ). n ∷ lengths_in es) size ∙ ap (λ (ns : List ℕ). 1 ∷ ns) (more_lengths es [] xs tail)
  more_lengths (e ∷ es) (f ∷ fs) xs h =
      let head : entry_of e ≡ entry_of f = cc in
      let tail : map entry_of es ≡ map entry_of fs ++ map (λ x. (x, Some 1)) xs = cc in
      let size : e.1.length ≡ f.1.length = same_Some e.1.length f.1.length (ap (λ (u : List ℕ × Option ℕ). u.1) head) in
      ap (λ (n : ℕ). n ∷ lengths_in es) size ∙ ap (λ (ns : List ℕ). f.1.length ∷ ns) (more_lengths es fs xs tail)
  more_lengths [] [] (x ∷ xs) h = absurd cc
  more_lengths [] (f ∷ fs) xs h = absurd cc
  more_lengths (e ∷ es) [] [] h = absurd cc

module _ {Z : Type 0} where
  sizes : (es : List (String Z × ArrayInfo)) → length (lengths_in es) ≡ length (map entry_of es)
  sizes [] = refl
  sizes (e ∷ es) = ap suc (sizes es)

  counted : (es : List (String Z × ArrayInfo)) (bs : List (List ℕ × Option ℕ)) → map entry_of es ≡ bs →
      length (lengths_in es) ≡ length bs
  counted es bs h = sizes es ∙ ap length h

-- ---- the law

is_one : (env : Env) (is : Items) (b : Stmts) (ps : List Part) → AreOneRegion env is b ps → IsOneRegion ps
is_one env is b [] h = tt
is_one env is b (part.Host r ∷ []) h = tt
is_one env is b (part.Host r ∷ x ∷ qs) h = absurd h
is_one env is b (part.Block' c row ∷ qs) h = absurd h
is_one env is b (part.Loop' a c row ∷ qs) h = absurd h
is_one env is b (part.Target t r ∷ qs) h = absurd h
is_one env is b (part.Data' g c row ∷ qs) h = absurd h
is_one env is b (part.Alone at t ∷ qs) h = absurd h

pub erased_is : (t : Text) (is js : Items) (p q : Program) → AreSafe (front_of_text t).env t.body → IsProgram is t p →
    IsProgram js (plain_tree t) q → IsErased p q
erased_is t is js p q safe m n =
    let bare : Env = (behind_globals t.globals no_front).env in
    let ks : Items = drop (front_size (plain_tree t)) js in
    let xs : List (List ℕ) = boxes_of_text t in
    let d : Layout = layout_of (lengths_of q) xs in
    let all : map entry_of q.arrays.entries ≡ arrays_in t.globals = n.arrays ∙ append-nil (arrays_in t.globals) in
    let lengths : lengths_of p ≡ lengths_of q ++ ones xs =
    more_lengths p.arrays.entries q.arrays.entries xs
    (m.arrays ∙ ap (λ bs. bs ++ boxes_in xs) (sym all)) in
    let count : length (lengths_of q) ≡ (behind_globals t.globals no_front).arrays =
    counted q.arrays.entries (arrays_in t.globals) all ∙ sym (arrays_counted t.globals) in
    let region : AreOneRegion bare ks (plain_stmts t.body) q.body.items =
    one_region (plain_stmts t.body) bare ks q.body.items (plain_bare t.body)
    (subst (λ (v : Env). ArePieces v ks (plain_stmts t.body) (pieces_of q.body.items))
    (bare_plain t) n.body.pieces) n.body.longest in
    record {
      plain = is_one bare ks (plain_stmts t.body) q.body.items region;
      boxes = ones xs;
      lengths = lengths;
      runs = λ input.
          subst (λ (o : Option Plain). SameRun (length (lengths_of q)) o (erased q input))
          (ap (λ (ls : List ℕ). parts_run ls p.body.items [] (first input)) (sym lengths)
          ∙ sym (parts_list (lengths_of p) p.body.items (first input)))
          (subst (λ (o : Option Plain). SameRun (length (lengths_of q))
          (parts_run (lengths_of q ++ ones xs) p.body.items [] (first input)) o)
          (sym (parts_list (lengths_of q) q.body.items (first input)))
          (runs d (front_of_text t).env bare (drop (front_size t) is) ks t.body p.body.items input safe
          (text_outside t (lengths_of q) count) (text_plain t)
          m.body.pieces q.body.items region));
    }

pub erased_text_runs : ErasedTextRuns
erased_text_runs bytes p q s u =
    let one : u.text ≡ plain_tree s.text = one_text (erased_text bytes) u.text (plain_tree s.text) u.spelled
    (spells_plain bytes s.text s.spelled) in
    erased_is s.text (items_of bytes) (items_of (erased_text bytes)) p q
    (main_safe s.text s.spelled.spelled.keeps) s.means
    (subst (λ (t : Text). IsProgram (items_of (erased_text bytes)) t q) one u.means)

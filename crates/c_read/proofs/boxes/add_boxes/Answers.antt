use Rattle.std.proofs.Common.{◌≡◌, ◌∙◌, ◌-◌, ◌++◌, ◌∷◌, [], List, ℕ, false, length, map, take, drop, sym, ap, refl, arith, slice_index_or}
use Rattle.std.specs.Prelude.{is_some}
use Rattle.std.specs.Borrow.{Bor}
use Rattle.std.proofs.lemmas.List.{append-nil}
use Rattle.c_grammar.specs.Rules.{fresh_names, max_arrays, numbered_from}
use Rattle.c_expressions.specs.declared.scope.Scope.{Scope}
use Rattle.c_expressions.specs.Means.{meaning_of}
use Rattle.c_expressions.specs.Scopes.{names_of}
use Rattle.c_read.specs.Boxes.{boxed_in, boxed_of, texts}
use Rattle.c_read.specs.Globals.{boxes_in, entry_of}
use Rattle.c_read.proofs.Boxed.{ascii_rest, entries_more, first_text, names_more}
use Rattle.c_read.proofs.Boxing.{arrays_more, boxes_more, free_before, fresh_entry, past_more, scope_more}
use Rattle.c_read.proofs.boxes.add_boxes.Goals as goal

abbrev no_text : Bor (List ℕ)
no_text = record { ref_ptr = (0, 0); now = [] }

pub names-init : goal.names-init
names-init c =
    let s : Scope = c.args.scope.now in
    let past : boxed_in s ≡ [] = ap (λ (bs : List (List ℕ × ℕ)). map (λ b. b.0) bs) c.requires.none in
    record {
      scope = refl;
      arrays = omega (arith, ap (λ (xs : List (List ℕ)). length xs) past);
      boxes = c.requires.none ∙ ap (λ (xs : List (List ℕ)). numbered_from s.arrays xs) (sym past);
      names = ap (λ (xs : List (List ℕ)). xs ++ fresh_names (λ x. is_some (meaning_of (names_of s) x))
          (max_arrays - s.arrays) xs (texts c.args.names.now)) past;
      entries = sym (append-nil (map entry_of c.args.arrays.now.entries))
          ∙ ap (λ (xs : List (List ℕ)). map entry_of c.args.arrays.now.entries ++ boxes_in xs) (sym past);
      ascii = c.requires.ascii;
    }

pub add_box-requires-clause-fresh : goal.add_box-requires-clause-fresh
add_box-requires-clause-fresh c =
    let x : List ℕ = (slice_index_or c.names.rest.now 0 no_text).now in
    fresh_entry c.args.scope.now c.names.scope x c.args.arrays.now.entries c.names.arrays.entries
    (free_before c.args.scope.now c.names.scope x c.is_taken.result c.names.invariant.scope c.is_taken.ensures
    c.if-not-is_taken.true) c.requires.known c.names.invariant.entries

pub names-preserved-in-Continue-1 : goal.names-preserved-in-Continue-1
names-preserved-in-Continue-1 c =
    let s : Scope = c.args.scope.now in
    let mid : Scope = c.names.scope in
    let new : Scope = c.add_box.new.scope in
    let x : List ℕ = (slice_index_or c.names.rest.now 0 no_text).now in
    let xs : List (List ℕ) = texts (take (length c.names.rest.now - 1) (drop 1 c.names.rest.now)) in
    let all : texts c.names.rest.now ≡ x ∷ xs = first_text c.names.rest.now no_text c.in-len1-up.len_at_least in
    let one = c.in_ok-add_box.ensures.boxed in
    let past : boxed_in new ≡ boxed_in mid ++ x ∷ [] =
    past_more x mid new c.names.arrays.entries c.add_box.new.arrays.entries one in
    record {
      scope = scope_more x s mid new c.names.arrays.entries c.add_box.new.arrays.entries c.names.invariant.scope one;
      arrays = arrays_more x s mid new c.names.arrays.entries c.add_box.new.arrays.entries c.names.invariant.arrays
          one;
      boxes = boxes_more x s mid new c.names.arrays.entries c.add_box.new.arrays.entries c.names.invariant.arrays
          c.names.invariant.boxes one;
      names = names_more (λ y. is_some (meaning_of (names_of s) y)) (max_arrays - mid.arrays) (max_arrays - new.arrays)
          (boxed_in mid) (boxed_in new) xs (boxed_of s (texts c.args.names.now)) x
          (omega (arith, one.arrays, c.if-scope-ge-MAX_ARRAYS.false))
          (free_before s mid x c.is_taken.result c.names.invariant.scope c.is_taken.ensures c.if-not-is_taken.true)
          past
          (ap (λ (ys : List (List ℕ)). boxed_in mid ++ fresh_names (λ y. is_some (meaning_of (names_of s) y))
          (max_arrays - mid.arrays) (boxed_in mid) ys) (sym all) ∙ c.names.invariant.names);
      entries = entries_more (boxed_in mid) (boxed_in new) x c.args.arrays.now.entries c.names.arrays.entries
          c.add_box.new.arrays.entries past one.entries c.names.invariant.entries;
      ascii = ascii_rest x xs (texts c.names.rest.now) all c.names.invariant.ascii;
    }

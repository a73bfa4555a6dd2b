-- Where the touches of statements lie, from what is known of their parts.
use Rattle.std.proofs.Common.{◌≡◌, ℕ, zero, suc, ◌+◌, ◌-◌, ◌<◌, ◌≤◌, Bool, true, false, List, [], ◌∷◌, ◌++◌, refl, sym, ap, ap₂, ◌∙◌, subst, arith, Vec, Global, take, length, get_or}
use Rattle.std.specs.Prelude.{◌&&◌, IfOk, Result, Ok, Err, slice_index}
use Rattle.std.proofs.lemmas.List.{get_or_append_left, take_more}
use Rattle.base.specs.declared.tree.Bounds.{Bounds}
use Rattle.base.specs.declared.tree.Expr.{Expr}
use Rattle.base.specs.declared.tree.Stmt.{Stmt, Block, Loop, If}
use Rattle.base.specs.Footprint.{Touch, expr_touches, stmt_touches, turns_touch, unless}
use Rattle.base.specs.Interval.{interval, is_known_nonzero, is_known_zero}
use Rattle.base.specs.Meaning.{turns_left}
use Rattle.ranges.specs.declared.touched.Asked.{Asked}
use Rattle.ranges.specs.declared.touched.Touched.{Touched}
use Rattle.ranges.specs.Seen.{list_touches, turns_from}
use Rattle.ranges.specs.Spans.{AreBetween}
use Rattle.ranges.specs.Strides.{AllHeld, Holds, ahead}
use Rattle.ranges.proofs.HeldTouches.{both_held}
use Rattle.ranges.proofs.SettledTouches.{next_turns, some_turn}
use Rattle.ranges.proofs.Spans.{between_push}
use Rattle.ranges.proofs.Touches.{touches_Block, touches_If, touches_Loop}
use Rattle.ranges.proofs.Walked.{no_turn_touches}

turns_held : (q : Asked) (h : Touched) (s : ℕ) (b : Bounds) (f : ℕ → List Touch) (first n v : ℕ) →
    ((w : ℕ) → first ≤ w → w < b.end → AllHeld q h s (f w)) →
    first ≤ v → n ≡ turns_left v b → AllHeld q h s (turns_touch n v b.step f)
turns_held q h s b f first zero v each le e = tt
turns_held q h s b f first (suc n) v each le e =
    both_held q h s (f v) (turns_touch n (v + b.step) b.step f) (each v le (some_turn n v b e))
    (turns_held q h s b f first n (v + b.step) each (omega (arith, le)) (next_turns n v b e))

-- a loop within the others leaves the names of these as they are
pub ahead_within : (lows loops : List ℕ) (lo v level : ℕ) → level < length lows → length lows ≡ length loops →
    ahead (lows ++ lo ∷ []) level (loops ++ v ∷ []) ≡ ahead lows level loops
ahead_within lows loops lo v level lt same =
    ap₂ (λ x y. x - y) (get_or_append_left loops (v ∷ []) 0 level (omega (arith, lt, same))) (get_or_append_left lows (lo ∷ []) 0 level lt)

module _ (q : Asked) (lows highs : List ℕ) (h : Touched) where
  pub held_Block : (x : Stmt) (all : Vec Stmt Global) (xs : List Stmt) → x ≡ Block all → xs ≡ all.items →
      Holds q lows highs h (list_touches xs) → Holds q lows highs h (stmt_touches x)
  held_Block x all xs is xs_is k loops d between =
      subst (λ (ts : List Touch). AllHeld q h (ahead lows q.level loops) ts)
      (ap (λ (ys : List Stmt). list_touches ys loops d) xs_is ∙ sym (touches_Block all loops d) ∙ ap (λ y. stmt_touches y loops d) (sym is))
      (k loops d between)

  pub held_Loop : (x : Stmt) (b : Bounds) (all : Vec Stmt Global) (xs : List Stmt) → x ≡ Loop b all → xs ≡ all.items →
      Holds q lows highs h (turns_from b.first b xs) → Holds q lows highs h (stmt_touches x)
  held_Loop x b all xs is xs_is k loops d between =
      subst (λ (ts : List Touch). AllHeld q h (ahead lows q.level loops) ts)
      (ap (λ (ys : List Stmt). turns_from b.first b ys loops d) xs_is ∙ sym (touches_Loop b all loops d) ∙ ap (λ y. stmt_touches y loops d) (sym is))
      (k loops d between)

  pub held_no_turn : (x : Stmt) (b : Bounds) (all : Vec Stmt Global) → x ≡ Loop b all → b.end ≤ b.first →
      Holds q lows highs h (stmt_touches x)
  held_no_turn x b all is none = held_Loop x b all all.items is refl
      (λ loops d between. subst (λ (ts : List Touch). AllHeld q h (ahead lows q.level loops) ts)
      (sym (no_turn_touches b.first b all.items loops d none)) tt)

  pub held_turns : (b : Bounds) (body : List Stmt) (lo hi : List ℕ) → q.level < length lows → lo ≡ lows ++ b.first ∷ [] →
      hi ≡ highs ++ (b.end - 1) ∷ [] → Holds q lo hi h (list_touches body) → Holds q lows highs h (turns_from b.first b body)
  held_turns b body lo hi level lo_is hi_is k loops d between =
      turns_held q h (ahead lows q.level loops) b (λ w. list_touches body (loops ++ w ∷ []) d) b.first (turns_left b.first b) b.first
      (λ w le lt. subst (λ (s : ℕ). AllHeld q h s (list_touches body (loops ++ w ∷ []) d))
      (ap (λ (ls : List ℕ). ahead ls q.level (loops ++ w ∷ [])) lo_is ∙ ahead_within lows loops b.first w q.level level between.as_many)
      (k (loops ++ w ∷ []) d
      (subst (λ (xs : List ℕ). AreBetween xs hi (loops ++ w ∷ [])) (sym lo_is)
      (subst (λ (xs : List ℕ). AreBetween (lows ++ b.first ∷ []) xs (loops ++ w ∷ [])) (sym hi_is)
      (between_push lows highs loops b.first (b.end - 1) w between le (omega (arith, lt)))))))
      (omega arith) refl

  -- a condition and its branches
  pub held_If : (x : Stmt) (c : Expr) (all other : Vec Stmt Global) (xs ys : List Stmt) →
      x ≡ If c all other → xs ≡ all.items → ys ≡ other.items → Holds q lows highs h (expr_touches c) →
      Holds q lows highs h (list_touches xs) → Holds q lows highs h (list_touches ys) → Holds q lows highs h (stmt_touches x)
  held_If x c all other xs ys is xs_is ys_is condition first second loops d between =
      subst (λ (ts : List Touch). AllHeld q h s ts)
      (sym (touches_If c all other loops d) ∙ ap (λ y. stmt_touches y loops d) (sym is))
      (both_held q h s (expr_touches c loops d) _ (condition loops d between)
      (both_held q h s (unless zero (list_touches all.items loops (d && nonzero))) _
      (unless_held zero (list_touches all.items loops (d && nonzero))
      (subst (λ (zs : List Stmt). AllHeld q h s (list_touches zs loops (d && nonzero))) xs_is (first loops (d && nonzero) between)))
      (unless_held nonzero (list_touches other.items loops (d && zero))
      (subst (λ (zs : List Stmt). AllHeld q h s (list_touches zs loops (d && zero))) ys_is (second loops (d && zero) between)))))
    where
      s : ℕ
      s = ahead lows q.level loops

      zero : Bool
      zero = is_known_zero (interval c loops)

      nonzero : Bool
      nonzero = is_known_nonzero (interval c loops)

      unless_held : (b : Bool) (ts : List Touch) → AllHeld q h s ts → AllHeld q h s (unless b ts)
      unless_held true ts k = tt
      unless_held false ts k = k

  -- one statement more
  pub held_more : (all : List Stmt) (i : ℕ) (x : Stmt) → i < length all → x ≡ get_or all i x →
      Holds q lows highs h (list_touches (take i all)) → Holds q lows highs h (stmt_touches x) →
      Holds q lows highs h (list_touches (take (i + 1) all))
  held_more all i x lt is g k loops d between = subst (λ (xs : List Stmt). AllHeld q h (ahead lows q.level loops) (list_touches xs loops d))
      (sym (take_more all i x lt ∙ ap (λ (y : Stmt). take i all ++ y ∷ []) (sym is)))
      (go (take i all) (g loops d between))
    where
      s : ℕ
      s = ahead lows q.level loops

      parts : (ts us : List Touch) → AllHeld q h s (ts ++ us) → AllHeld q h s ts × AllHeld q h s us
      parts [] us h = (tt, h)
      parts (t ∷ ts) us h = let p = parts ts us h.1 in ((h.0, p.0), p.1)

      go : (xs : List Stmt) → AllHeld q h s (list_touches xs loops d) → AllHeld q h s (list_touches (xs ++ x ∷ []) loops d)
      go [] e = both_held q h s (stmt_touches x loops d) [] (k loops d between) tt
      go (y ∷ ys) e =
          let p = parts (stmt_touches y loops d) (list_touches ys loops d) e in
          both_held q h s (stmt_touches y loops d) (list_touches (ys ++ x ∷ []) loops d) p.0 (go ys p.1)

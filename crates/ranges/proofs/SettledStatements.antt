-- Statements of which nothing new is seen.
use Rattle.std.proofs.Common.{◌≡◌, ℕ, ◌+◌, ◌-◌, ◌<◌, ◌≤◌, Bool, true, false, List, [], ◌∷◌, ◌++◌, refl, sym, ap, ◌∙◌, subst, arith, Vec, Global, take, length, get_or}
use Rattle.std.specs.Prelude.{◌&&◌, IfOk, Result, Ok, Err}
use Rattle.std.proofs.lemmas.Bool.{and_parts, false≢true}
use Rattle.std.proofs.lemmas.List.{take_more}
use Rattle.base.specs.declared.tree.Bounds.{Bounds}
use Rattle.base.specs.declared.tree.Expr.{Expr}
use Rattle.base.specs.declared.tree.Stmt.{Stmt, Block, Loop, If}
use Rattle.base.specs.Footprint.{Touch, expr_touches, stmt_touches, unless}
use Rattle.base.specs.Interval.{interval, is_known_nonzero, is_known_zero}
use Rattle.base.specs.Meaning.{turns_left}
use Rattle.ranges.specs.declared.settled.Told.{Told}
use Rattle.ranges.specs.Seen.{Seen, list_touches, turns_from}
use Rattle.ranges.specs.Settled.{AllSettled, Settles, Tells}
use Rattle.ranges.specs.Spans.{AreBetween}
use Rattle.ranges.proofs.SettledTouches.{both_settled, turns_settled}
use Rattle.ranges.proofs.Spans.{between_push}
use Rattle.ranges.proofs.Touches.{touches_Block, touches_If, touches_Loop}
use Rattle.ranges.proofs.Walked.{no_turn_touches}

pub if_ok : {T E : Type 0} (r : Result T E) (P Q : T → Type 0) → IfOk r P → ((x : T) → P x → Q x) → IfOk r Q
if_ok (Ok x) P Q h f = f x h
if_ok (Err e) P Q h f = tt

both_true : (a b : Bool) → a ≡ true → b ≡ true → (a && b) ≡ true
both_true true b h k = k
both_true false b h k = absurd cc

module _ (lengths : List ℕ) (s : Seen) (lows highs : List ℕ) (certain : Bool) where
  pub settles_Block : (x : Stmt) (all : Vec Stmt Global) (xs : List Stmt) → x ≡ Block all → xs ≡ all.items →
      Settles lengths s lows highs certain (list_touches xs) → Settles lengths s lows highs certain (stmt_touches x)
  settles_Block x all xs is xs_is h loops d between weaker =
      subst (λ (ts : List Touch). AllSettled lengths s ts)
      (ap (λ (ys : List Stmt). list_touches ys loops d) xs_is ∙ sym (touches_Block all loops d) ∙ ap (λ y. stmt_touches y loops d) (sym is))
      (h loops d between weaker)

  pub settles_Loop : (x : Stmt) (b : Bounds) (all : Vec Stmt Global) (xs : List Stmt) → x ≡ Loop b all → xs ≡ all.items →
      Settles lengths s lows highs certain (turns_from b.first b xs) → Settles lengths s lows highs certain (stmt_touches x)
  settles_Loop x b all xs is xs_is h loops d between weaker =
      subst (λ (ts : List Touch). AllSettled lengths s ts)
      (ap (λ (ys : List Stmt). turns_from b.first b ys loops d) xs_is ∙ sym (touches_Loop b all loops d) ∙ ap (λ y. stmt_touches y loops d) (sym is))
      (h loops d between weaker)

  pub settles_no_turn : (x : Stmt) (b : Bounds) (all : Vec Stmt Global) → x ≡ Loop b all → b.end ≤ b.first →
      Settles lengths s lows highs certain (stmt_touches x)
  settles_no_turn x b all is none = settles_Loop x b all all.items is refl
      (λ loops d between weaker. subst (λ (ts : List Touch). AllSettled lengths s ts)
      (sym (no_turn_touches b.first b all.items loops d none)) tt)

  pub settles_turns : (b : Bounds) (body : List Stmt) (lo hi : List ℕ) → lo ≡ lows ++ b.first ∷ [] → hi ≡ highs ++ (b.end - 1) ∷ [] →
      Settles lengths s lo hi certain (list_touches body) → Settles lengths s lows highs certain (turns_from b.first b body)
  settles_turns b body lo hi lo_is hi_is h loops d between weaker =
      turns_settled lengths s b (λ w. list_touches body (loops ++ w ∷ []) d) b.first (turns_left b.first b) b.first
      (λ w le lt. h (loops ++ w ∷ []) d
      (subst (λ (xs : List ℕ). AreBetween xs hi (loops ++ w ∷ [])) (sym lo_is)
      (subst (λ (xs : List ℕ). AreBetween (lows ++ b.first ∷ []) xs (loops ++ w ∷ [])) (sym hi_is)
      (between_push lows highs loops b.first (b.end - 1) w between le (omega (arith, lt)))))
      weaker)
      (omega arith) refl

  -- a condition, and its branches unless they are excluded
  pub settles_If : (x : Stmt) (c : Expr) (all other : Vec Stmt Global) (xs ys : List Stmt) (told : Told) (one two : Bool) →
      x ≡ If c all other → xs ≡ all.items → ys ≡ other.items → Tells lows highs c told →
      one ≡ (certain && told.may_hold) → two ≡ (certain && told.may_fail) →
      Settles lengths s lows highs certain (expr_touches c) →
      (told.fails ≡ false → Settles lengths s lows highs one (list_touches xs)) →
      (told.holds ≡ false → Settles lengths s lows highs two (list_touches ys)) →
      Settles lengths s lows highs certain (stmt_touches x)
  settles_If x c all other xs ys told one two is xs_is ys_is tells one_is two_is condition first second loops d between weaker =
      subst (λ (ts : List Touch). AllSettled lengths s ts)
      (sym (touches_If c all other loops d) ∙ ap (λ y. stmt_touches y loops d) (sym is))
      (both_settled lengths s (expr_touches c loops d) _ (condition loops d between weaker)
      (both_settled lengths s (unless zero (list_touches all.items loops (d && nonzero))) _
      (unless_settled zero (list_touches all.items loops (d && nonzero)) left)
      (unless_settled nonzero (list_touches other.items loops (d && zero)) right)))
    where
      zero : Bool
      zero = is_known_zero (interval c loops)

      nonzero : Bool
      nonzero = is_known_nonzero (interval c loops)

      unless_settled : (b : Bool) (ts : List Touch) → (b ≡ false → AllSettled lengths s ts) → AllSettled lengths s (unless b ts)
      unless_settled true ts h = tt
      unless_settled false ts h = h refl

      not_told : (t b : Bool) → (t ≡ true → b ≡ true) → b ≡ false → t ≡ false
      not_told true b h k = absurd (false≢true (sym k ∙ h refl))
      not_told false b h k = refl

      left : zero ≡ false → AllSettled lengths s (list_touches all.items loops (d && nonzero))
      left e = subst (λ (zs : List Stmt). AllSettled lengths s (list_touches zs loops (d && nonzero))) xs_is
          (first (not_told told.fails zero (λ t. tells.fails t loops between) e) loops (d && nonzero) between
          (λ h. let p = and_parts d nonzero h in
          one_is ∙ both_true certain told.may_hold (weaker p.0) (tells.may_hold loops between p.1)))

      right : nonzero ≡ false → AllSettled lengths s (list_touches other.items loops (d && zero))
      right e = subst (λ (zs : List Stmt). AllSettled lengths s (list_touches zs loops (d && zero))) ys_is
          (second (not_told told.holds nonzero (λ t. tells.holds t loops between) e) loops (d && zero) between
          (λ h. let p = and_parts d zero h in
          two_is ∙ both_true certain told.may_fail (weaker p.0) (tells.may_fail loops between p.1)))

  -- one statement more
  pub settles_more : (all : List Stmt) (i : ℕ) (x : Stmt) → i < length all → x ≡ get_or all i x →
      Settles lengths s lows highs certain (list_touches (take i all)) → Settles lengths s lows highs certain (stmt_touches x) →
      Settles lengths s lows highs certain (list_touches (take (i + 1) all))
  settles_more all i x lt is h k loops d between weaker = subst (λ (xs : List Stmt). AllSettled lengths s (list_touches xs loops d))
      (sym (take_more all i x lt ∙ ap (λ (y : Stmt). take i all ++ y ∷ []) (sym is)))
      (go (take i all) (h loops d between weaker))
    where
      go : (xs : List Stmt) → AllSettled lengths s (list_touches xs loops d) → AllSettled lengths s (list_touches (xs ++ x ∷ []) loops d)
      go [] h = both_settled lengths s (stmt_touches x loops d) [] (k loops d between weaker) tt
      go (y ∷ ys) h =
          let p = parts (stmt_touches y loops d) (list_touches ys loops d) h in
          both_settled lengths s (stmt_touches y loops d) (list_touches (ys ++ x ∷ []) loops d) p.0 (go ys p.1)
        where
          parts : (ts us : List Touch) → AllSettled lengths s (ts ++ us) → AllSettled lengths s ts × AllSettled lengths s us
          parts [] us h = (tt, h)
          parts (t ∷ ts) us h = let p = parts ts us h.1 in ((h.0, p.0), p.1)

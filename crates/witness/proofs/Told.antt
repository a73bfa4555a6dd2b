-- Texts that are written piece by piece.
use Rattle.std.proofs.Common.{◌≡◌, ℕ, ◌+◌, ◌<◌, ◌≤◌, ◌==◌, Bool, true, false, List, [], ◌∷◌, ◌++◌, length, drop, get_or, Option, refl, sym, ap, ◌∙◌, subst, append_assoc, append-nil, arith}
use Rattle.std.specs.Prelude.{Result, Ok, Err, OnOk, if◌then◌else◌, codes, decimal}
use Rattle.std.proofs.lemmas.List.{at_drop_all, at_drop_more}
use Rattle.std.proofs.lemmas.Bool.Decides.{nat_tests}
use Rattle.std.specs.Io.KnownBytes.{Appends}
use Rattle.std.proofs.KnownBytes.{Appends-nil, Appends-trans}
use Rattle.base.specs.declared.item.Answer.{Answer}
use Rattle.witness.specs.declared.trial.Witness.{Witness}
use Rattle.witness.specs.Texts.{comma_list, command_line, difference_bytes, difference_from, difference_line, end_bytes, front_line, list_option, order_line, prefixed, run_bytes, runs_from, runs_list, runs_option, stop_line, turns_line, witness_bytes}

-- what is appended is the front of a text of which the rest is still to be written
pub record IsFront (old new : Option (List ℕ)) (all rest : List ℕ) : Type 0 where
  pub told : List ℕ
  pub appended : Appends old new told
  pub whole : told ++ rest ≡ all

pub front_none : (a : Option (List ℕ)) (all : List ℕ) → IsFront a a all all
front_none a all = record { told = []; appended = Appends-nil a; whole = refl }

pub front_more : (a b c : Option (List ℕ)) (all rest piece left : List ℕ) → IsFront a b all rest → rest ≡ piece ++ left → Appends b c piece
    → IsFront a c all left
front_more a b c all rest piece left f e w =
    record {
      told = f.told ++ piece;
      appended = Appends-trans a b c f.told piece f.appended w;
      whole = append_assoc f.told piece left ∙ (ap (λ (xs : List ℕ). f.told ++ xs) (sym e) ∙ f.whole);
    }

pub front_all : (a b : Option (List ℕ)) (all rest : List ℕ) → IsFront a b all rest → rest ≡ [] → Appends a b all
front_all a b all rest f e =
    subst (λ (xs : List ℕ). Appends a b xs)
    (sym (append-nil f.told) ∙ (ap (λ (xs : List ℕ). f.told ++ xs) (sym e) ∙ f.whole))
    f.appended

-- a number more, behind a comma or a blank
pub comma_more : (before xs : List ℕ) (k : ℕ) → k < length xs
    → comma_list before (drop k xs) ≡ (before ++ decimal (get_or xs k 0)) ++ comma_list (codes ",") (drop (k + 1) xs)
comma_more before xs k h =
    at_drop_more (λ (ys : List ℕ). comma_list before ys) xs k 0 h
    ∙ sym (append_assoc before (decimal (get_or xs k 0)) (comma_list (codes ",") (drop (k + 1) xs)))

pub comma_ends : (before xs : List ℕ) (k : ℕ) → length xs ≤ k → comma_list before (drop k xs) ≡ []
comma_ends before xs k h = at_drop_all (λ (ys : List ℕ). comma_list before ys) xs k h

-- a byte more, behind the word where a line begins
pub prefixed_more : (word : List ℕ) (begins : Bool) (xs : List ℕ) (k : ℕ) → k < length xs
    → prefixed word begins (drop k xs)
    ≡ ((if begins then word else []) ++ get_or xs k 0 ∷ []) ++ prefixed word (get_or xs k 0 == 10) (drop (k + 1) xs)
prefixed_more word begins xs k h =
    at_drop_more (λ (ys : List ℕ). prefixed word begins ys) xs k 0 h
    ∙ sym (append_assoc (if begins then word else []) (get_or xs k 0 ∷ []) (prefixed word (get_or xs k 0 == 10) (drop (k + 1) xs)))

pub prefixed_ends : (word : List ℕ) (begins : Bool) (xs : List ℕ) (k : ℕ) → length xs ≤ k → prefixed word begins (drop k xs) ≡ []
prefixed_ends word begins xs k h = at_drop_all (λ (ys : List ℕ). prefixed word begins ys) xs k h

-- one text behind another
pub then_on : {X E : Type 0} (r : Result X E) (a b c : Option (List ℕ)) (front rest : List ℕ) → Appends a b front → OnOk r (Appends b c rest)
    → OnOk r (Appends a c (front ++ rest))
then_on (Ok x) a b c front rest f h = Appends-trans a b c front rest f h
then_on (Err e) a b c front rest f h = tt

option_bytes : (word xs : List ℕ) → false ≡ (length xs == 0) → word ++ comma_list (codes " ") xs ≡ list_option word xs
option_bytes word [] h = cc
option_bytes word (x ∷ xs) h = refl

pub option_written : {X E : Type 0} (r : Result X E) (a b c : Option (List ℕ)) (word xs : List ℕ) → false ≡ (length xs == 0) → Appends a b word
    → OnOk r (Appends b c (comma_list (codes " ") xs)) → OnOk r (Appends a c (list_option word xs))
option_written r a b c word xs h f s =
    subst (λ (text : List ℕ). OnOk r (Appends a c text)) (option_bytes word xs h)
    (then_on r a b c word (comma_list (codes " ") xs) f s)

line_bytes : (xs : List ℕ) → false ≡ (length xs == 0) → codes "turns" ++ (comma_list (codes " ") xs ++ codes "\n") ≡ turns_line xs
line_bytes [] h = cc
line_bytes (x ∷ xs) h = refl

pub line_written : {X E : Type 0} (r : Result X E) (a b c d : Option (List ℕ)) (xs : List ℕ) → false ≡ (length xs == 0)
    → Appends a b (codes "turns") → Appends b c (comma_list (codes " ") xs) → OnOk r (Appends c d (codes "\n")) → OnOk r (Appends a d (turns_line xs))
line_written r a b c d xs h s1 s2 s3 =
    subst (λ (text : List ℕ). OnOk r (Appends a d text)) (line_bytes xs h)
    (then_on r a b d (codes "turns") (comma_list (codes " ") xs ++ codes "\n") s1
    (then_on r b c d (comma_list (codes " ") xs) (codes "\n") s2 s3))

same : (n : ℕ) → (n == n) ≡ true
same n = grind (arith, nat_tests)

-- a number more of runs: the same one, and another
pub runs_same : (n k m : ℕ) (ms : List ℕ) → m ≡ n → runs_from n k (m ∷ ms) ≡ runs_from n (k + 1) ms
runs_same n k m ms e = rw (e, same n) refl

pub runs_other : (n k m : ℕ) (ms : List ℕ) → (m == n) ≡ false → runs_from n k (m ∷ ms) ≡ run_bytes n k ++ (codes "," ++ runs_from m 1 ms)
runs_other n k m ms e = rw e refl

pub front_alike : (a b : Option (List ℕ)) (all rest left : List ℕ) → IsFront a b all rest → rest ≡ left → IsFront a b all left
front_alike a b all rest left f e = subst (λ (xs : List ℕ). IsFront a b all xs) e f

-- what is left is written last
pub front_ends : {X E : Type 0} (r : Result X E) (a b c : Option (List ℕ)) (all rest : List ℕ) → IsFront a b all rest → OnOk r (Appends b c rest)
    → OnOk r (Appends a c all)
front_ends (Ok x) a b c all rest f w =
    subst (λ (xs : List ℕ). Appends a c xs) f.whole (Appends-trans a b c f.told rest f.appended w)
front_ends (Err e) a b c all rest f w = tt

-- a list behind its word, and the mark behind it
pub runs_written : {X E : Type 0} (r : Result X E) (a b c d : Option (List ℕ)) (word xs : List ℕ) (n : ℕ) (ns : List ℕ) → xs ≡ n ∷ ns
    → Appends a b word → Appends b c (runs_from n 1 ns) → OnOk r (Appends c d (codes "'")) → OnOk r (Appends a d (runs_option word xs))
runs_written r a b c d word xs n ns e f s w =
    subst (λ (ys : List ℕ). OnOk r (Appends a d (runs_option word ys))) (sym e)
    (then_on r a b d word (runs_from n 1 ns ++ codes "'") f (then_on r b c d (runs_from n 1 ns) (codes "'") s w))

-- a byte more that two texts have in common
pub common_byte : (n b : ℕ) (own other xs ys left right : List ℕ) → left ≡ b ∷ xs → right ≡ b ∷ ys → (b == 10) ≡ false
    → difference_from n own other left right ≡ difference_from n own other xs ys
common_byte n b own other xs ys left right e f h = rw (e, f, same b, h) refl

pub common_feed : (n b : ℕ) (own other xs ys left right : List ℕ) → left ≡ b ∷ xs → right ≡ b ∷ ys → b ≡ 10
    → difference_from n own other left right ≡ difference_from (n + 1) xs ys xs ys
common_feed n b own other xs ys left right e f h = rw (e, f, h) refl

pub difference_written : {X E : Type 0} (r : Result X E) (a b c d e f : Option (List ℕ)) (n : ℕ) (own other head : List ℕ)
    → head ≡ codes "first difference line " ++ (decimal n ++ codes ": ") → Appends a b head → Appends b c (front_line own)
    → Appends c d (codes ", erased ") → Appends d e (front_line other) → OnOk r (Appends e f (codes "\n"))
    → OnOk r (Appends a f (difference_bytes n own other))
difference_written r a b c d e f n own other head is s1 s2 s3 s4 s5 =
    let from4 : List ℕ = front_line other ++ codes "\n" in
    let from3 : List ℕ = codes ", erased " ++ from4 in
    let from2 : List ℕ = front_line own ++ from3 in
    let r4 : OnOk r (Appends d f from4) = then_on r d e f (front_line other) (codes "\n") s4 s5 in
    let r3 : OnOk r (Appends c f from3) = then_on r c d f (codes ", erased ") from4 s3 r4 in
    let r2 : OnOk r (Appends b f from2) = then_on r b c f (front_line own) from3 s2 r3 in
    subst (λ (xs : List ℕ). OnOk r (Appends a f xs))
    (ap (λ (xs : List ℕ). xs ++ from2) is
    ∙ (append_assoc (codes "first difference line ") (decimal n ++ codes ": ") from2
    ∙ ap (λ (xs : List ℕ). codes "first difference line " ++ xs) (append_assoc (decimal n) (codes ": ") from2)))
    (then_on r a b f head from2 s1 r2)

pub all_written : {X E : Type 0} (r : Result X E) (z a b c d e f v g u k : Option (List ℕ))
    (name : List ℕ) (w : Witness) (plain : Answer) (c1 t1 c2 t2 word o1 o2 own c3 t3 : List ℕ) → c1 ≡ w.choices.items → t1 ≡ w.turns.items
    → c2 ≡ w.choices.items → t2 ≡ w.turns.items → word ≡ codes "erased output " → o1 ≡ plain.out.items → o2 ≡ plain.out.items
    → own ≡ name → c3 ≡ w.choices.items → t3 ≡ w.turns.items
    → Appends z a (order_line c1 t1) → Appends a b (codes "choices") → Appends b c (runs_list c2) → Appends c d (codes "\n") → Appends d e (turns_line t2)
    → Appends e f (end_bytes w.end) → Appends f v (stop_line w.stop) → Appends v g (prefixed word true o1) → Appends g u (difference_line w.end o2)
    → OnOk r (Appends u k (command_line own c3 t3))
    → OnOk r (Appends z k (witness_bytes name w plain))
all_written r z a b c d e f v g u k name w plain c1 t1 c2 t2 word o1 o2 own c3 t3 e1 e2 e3 e4 e5 e6 e7 e8 e9 e10 p0 s1 p2 s3 p4 s5 sv p6 p7 p8 =
    let list : List ℕ = w.choices.items in
    let order : List ℕ = w.turns.items in
    let s0 : Appends z a (order_line list order) =
    subst (λ (xs : List ℕ). Appends z a (order_line list xs)) e2 (subst (λ (xs : List ℕ). Appends z a (order_line xs t1)) e1 p0) in
    let s2 : Appends b c (runs_list list) = subst (λ (xs : List ℕ). Appends b c (runs_list xs)) e3 p2 in
    let s4 : Appends d e (turns_line order) = subst (λ (xs : List ℕ). Appends d e (turns_line xs)) e4 p4 in
    let s6 : Appends v g (prefixed (codes "erased output ") true plain.out.items) =
    subst (λ (xs : List ℕ). Appends v g (prefixed (codes "erased output ") true xs)) e6 (subst (λ (xs : List ℕ). Appends v g (prefixed xs true o1)) e5 p6) in
    let s7 : Appends g u (difference_line w.end plain.out.items) = subst (λ (xs : List ℕ). Appends g u (difference_line w.end xs)) e7 p7 in
    let from7 : List ℕ = command_line name list order in
    let r8 : OnOk r (Appends u k from7) =
    subst (λ (xs : List ℕ). OnOk r (Appends u k (command_line name list xs))) e10
    (subst (λ (xs : List ℕ). OnOk r (Appends u k (command_line name xs t3))) e9
    (subst (λ (xs : List ℕ). OnOk r (Appends u k (command_line xs c3 t3))) e8 p8)) in
    let from6 : List ℕ = difference_line w.end plain.out.items ++ from7 in
    let from5 : List ℕ = prefixed (codes "erased output ") true plain.out.items ++ from6 in
    let fromv : List ℕ = stop_line w.stop ++ from5 in
    let from4 : List ℕ = end_bytes w.end ++ fromv in
    let from3 : List ℕ = turns_line order ++ from4 in
    let from2 : List ℕ = codes "\n" ++ from3 in
    let from1 : List ℕ = runs_list list ++ from2 in
    let from0 : List ℕ = codes "choices" ++ from1 in
    let r7 : OnOk r (Appends g k from6) = then_on r g u k (difference_line w.end plain.out.items) from7 s7 r8 in
    let r6 : OnOk r (Appends v k from5) = then_on r v g k (prefixed (codes "erased output ") true plain.out.items) from6 s6 r7 in
    let rv : OnOk r (Appends f k fromv) = then_on r f v k (stop_line w.stop) from5 sv r6 in
    let r5 : OnOk r (Appends e k from4) = then_on r e f k (end_bytes w.end) fromv s5 rv in
    let r4 : OnOk r (Appends d k from3) = then_on r d e k (turns_line order) from4 s4 r5 in
    let r3 : OnOk r (Appends c k from2) = then_on r c d k (codes "\n") from3 s3 r4 in
    let r2 : OnOk r (Appends b k from1) = then_on r b c k (runs_list list) from2 s2 r3 in
    let r1 : OnOk r (Appends a k from0) = then_on r a b k (codes "choices") from1 s1 r2 in
    then_on r z a k (order_line list order) from0 s0 r1

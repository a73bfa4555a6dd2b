-- The parts of a text are known from its tokens: heads of loops, right sides, simple statements, globals.
use Rattle.std.proofs.Common.{◌≡◌, ℕ, false, List, [], ◌∷◌, ◌++◌, Option, Some, None, refl, sym, ap, subst, ◌∙◌, append_assoc}
use Rattle.c_tokens.specs.declared.kind.Sign.TheVariants as sign
use Rattle.c_grammar.specs.Lexeme.{Lexeme, Read, Uint64}
use Rattle.c_grammar.specs.Terminal.{Fixed, Mark, same}
use Rattle.c_grammar.specs.Grammar.{MakesScalar, Slot, Slots, for, mark, word, Term, term, IsRanked, Source, Input, Value, source, IsRankedSource, Head, Declare, Assign, Store, Show, Stmts, head_slots, body_opening, body_closing, end_mark, stmt, stmts_in, Global, Scalar, Array, boxes_slots, globals, Text, main_part, nest_slots}
use Rattle.c_grammar.specs.Rules.{source_grammar}
use Rattle.c_grammar.specs.Texts.{kinds}
use Rattle.c_grammar.proofs.GoesOn.{NoRead, term_no_read}
use Rattle.c_grammar.proofs.TermReader.{EndsTerm, one_term}

pub tokens_too : (xs ys : Slots) → xs ≡ ys → kinds source_grammar xs ≡ kinds source_grammar ys
tokens_too xs ys e = ap (λ (u : Slots). kinds source_grammar u) e

-- ---- heads

abbrev head : List ℕ → Option ℕ → Option ℕ → Option ℕ → Head
head x a b c = record { name = x; first = a; limit = b; step = c }

head_is : (x y : List ℕ) (a b c d e f : Option ℕ) → x ≡ y → a ≡ b → c ≡ d → e ≡ f → head x a c e ≡ head y b d f
head_is x y a b c d e f p q r s = cc

pub one_head : (h k : Head) (xs ys : Slots) → head_slots h ++ xs ≡ head_slots k ++ ys → (h ≡ k) × (xs ≡ ys)
one_head h k xs ys e =
    let all = tokens_too _ _ e in
    let names : h.name ≡ k.name = cc in
    let firsts : h.first ≡ k.first = cc in
    let limits : h.limit ≡ k.limit = cc in
    let steps : h.step ≡ k.step = cc in
    (head_is h.name k.name h.first k.first h.limit k.limit h.step k.step names firsts limits steps, cc)

-- ---- right sides

reads : (e : Term) (xs ys : Slots) → term e ++ xs ≡ source Input ++ ys → ⊥
reads e xs ys h =
    let bad : same (Fixed Read) (Fixed Read) ≡ false = subst (λ (u : Slots). NoRead u) h (term_no_read e xs) in absurd cc

pub one_source : (v w : Source) → IsRankedSource v → IsRankedSource w → (x : Slot) (xs ys : Slots) → EndsTerm x.0
    → source v ++ (x ∷ xs) ≡ source w ++ (x ∷ ys) → (v ≡ w) × (xs ≡ ys)
one_source Input Input h k x xs ys n e = (refl, cc)
one_source Input (Value b) h k x xs ys n e = absurd (reads b (x ∷ ys) (x ∷ xs) (sym e))
one_source (Value a) Input h k x xs ys n e = absurd (reads a (x ∷ xs) (x ∷ ys) e)
one_source (Value a) (Value b) h k x xs ys n e =
    (let both = one_term a b h k x xs ys n e in (ap (λ (u : Term). Value u) both.0, both.1))

-- with what ends it
one_ended : (v w : Source) → IsRankedSource v → IsRankedSource w → (x : Slot) (xs ys : Slots) → EndsTerm x.0
    → (source v ++ x ∷ []) ++ xs ≡ (source w ++ x ∷ []) ++ ys → (v ≡ w) × (xs ≡ ys)
one_ended v w h k x xs ys n e =
    one_source v w h k x xs ys n
    (sym (append_assoc (source v) (x ∷ []) xs) ∙ e ∙ append_assoc (source w) (x ∷ []) ys)

-- ---- statements without statements in them

pub one_declare : (x y : List ℕ) (v w : Source) → IsRankedSource v → IsRankedSource w → (xs ys : Slots)
    → stmt (Declare x v) ++ xs ≡ stmt (Declare y w) ++ ys → (Declare x v ≡ Declare y w) × (xs ≡ ys)
one_declare x y v w h k xs ys e =
    let last : Slot = (Mark sign.Semicolon, for MakesScalar) in
    let all = tokens_too _ _ e in
    let names : x ≡ y = cc in
    let tail : (source v ++ last ∷ []) ++ xs ≡ (source w ++ last ∷ []) ++ ys = cc in
    let both = one_ended v w h k last xs ys (refl, refl, refl) tail in
    (ap (λ (u : List ℕ). Declare u v) names ∙ ap (λ (u : Source). Declare y u) both.0, both.1)

pub one_assign : (x y : List ℕ) (v w : Source) → IsRankedSource v → IsRankedSource w → (xs ys : Slots)
    → stmt (Assign x v) ++ xs ≡ stmt (Assign y w) ++ ys → (Assign x v ≡ Assign y w) × (xs ≡ ys)
one_assign x y v w h k xs ys e =
    let all = tokens_too _ _ e in
    let names : x ≡ y = cc in
    let tail : (source v ++ end_mark ∷ []) ++ xs ≡ (source w ++ end_mark ∷ []) ++ ys = cc in
    let both = one_ended v w h k end_mark xs ys (refl, refl, refl) tail in
    (ap (λ (u : List ℕ). Assign u v) names ∙ ap (λ (u : Source). Assign y u) both.0, both.1)

pub one_store : (x y : List ℕ) (i j : Term) (v w : Source) → IsRanked i → IsRanked j → IsRankedSource v
    → IsRankedSource w → (xs ys : Slots) → stmt (Store x i v) ++ xs ≡ stmt (Store y j w) ++ ys
    → (Store x i v ≡ Store y j w) × (xs ≡ ys)
one_store x y i j v w hi hj hv hw xs ys e =
    let rest : Source → Slots = λ u. mark sign.Equal ∷ (source u ++ end_mark ∷ []) in
    let close : Slot = mark sign.CloseBracket in
    let all = tokens_too _ _ e in
    let names : x ≡ y = cc in
    let tail : (term i ++ (close ∷ rest v)) ++ xs ≡ (term j ++ (close ∷ rest w)) ++ ys = cc in
    let first =
    one_term i j hi hj close (rest v ++ xs) (rest w ++ ys) (refl, refl, refl)
    (sym (append_assoc (term i) (close ∷ rest v) xs) ∙ tail ∙ append_assoc (term j) (close ∷ rest w) ys) in
    let both : rest v ++ xs ≡ rest w ++ ys = first.1 in
    let value : (source v ++ end_mark ∷ []) ++ xs ≡ (source w ++ end_mark ∷ []) ++ ys = cc in
    let second = one_ended v w hv hw end_mark xs ys (refl, refl, refl) value in (
      ap (λ (u : List ℕ). Store u i v) names ∙ ap (λ (u : Term). Store y u v) first.0
          ∙ ap (λ (u : Source). Store y j u) second.0,
      second.1,
    )

pub one_show : (a b : Term) → IsRanked a → IsRanked b → (xs ys : Slots) → stmt (Show a) ++ xs ≡ stmt (Show b) ++ ys
    → (Show a ≡ Show b) × (xs ≡ ys)
one_show a b h k xs ys e =
    let rest : Slots = mark sign.CloseParen ∷ end_mark ∷ [] in
    let tail : (term a ++ rest) ++ xs ≡ (term b ++ rest) ++ ys = cc in
    let both =
    one_term a b h k (mark sign.CloseParen) (end_mark ∷ xs) (end_mark ∷ ys) (refl, refl, refl)
    (sym (append_assoc (term a) rest xs) ∙ tail ∙ append_assoc (term b) rest ys) in
    let ends : end_mark ∷ xs ≡ end_mark ∷ ys = both.1 in
    (ap (λ (v : Term). Show v) both.0, cc)

-- ---- bodies

-- two bodies, which are nests of d loops, are one where their tokens are
abbrev pub OneNest : ℕ → Stmts → Stmts → Type 0
OneNest d b c =
    (xs ys : Slots) → stmts_in b d ++ (body_closing ∷ xs) ≡ stmts_in c d ++ (body_closing ∷ ys) → (b ≡ c) × (xs ≡ ys)

abbrev pub OneBody : Stmts → Stmts → Type 0
OneBody b c = OneNest 0 b c

abbrev ended : Stmts → ℕ → Slots
ended b d = stmts_in b d ++ body_closing ∷ []

pub one_nest : (d : ℕ) (b c : Stmts) → OneNest d b c → (xs ys : Slots) → ended b d ++ xs ≡ ended c d ++ ys
    → (b ≡ c) × (xs ≡ ys)
one_nest d b c one xs ys e =
    one xs ys
    (sym (append_assoc (stmts_in b d) (body_closing ∷ []) xs) ∙ e ∙ append_assoc (stmts_in c d) (body_closing ∷ []) ys)

pub one_body : (b c : Stmts) → OneBody b c → (xs ys : Slots) → ended b 0 ++ xs ≡ ended c 0 ++ ys → (b ≡ c) × (xs ≡ ys)
one_body b c one xs ys e = one_nest 0 b c one xs ys e

-- a loop behind its first word
pub one_turns : (d : ℕ) (h k : Head) (b c : Stmts) → OneNest d b c → (xs ys : Slots)
    → nest_slots h b d ++ xs ≡ nest_slots k c d ++ ys → (h ≡ k) × (b ≡ c) × (xs ≡ ys)
one_turns d h k b c one xs ys e =
    let heads = one_head h k (body_opening ∷ (ended b d ++ xs)) (body_opening ∷ (ended c d ++ ys)) e in
    let rest : body_opening ∷ (ended b d ++ xs) ≡ body_opening ∷ (ended c d ++ ys) = heads.1 in
    let tail : ended b d ++ xs ≡ ended c d ++ ys = cc in
    let bodies = one_nest d b c one xs ys tail in
    (heads.0, bodies.0, bodies.1)

-- ---- globals

-- the line of the boxed scalars and main
abbrev pub rest_of : Option (List Lexeme) → Stmts → Slots
rest_of o b = boxes_slots o ++ main_part b

no_global : (o : Option (List Lexeme)) (b : Stmts) (xs : Slots) → rest_of o b ≡ word Uint64 ∷ xs → ⊥
no_global None b xs e = (let all = tokens_too _ _ e in cc)
no_global (Some l) b xs e = (let all = tokens_too _ _ e in cc)

pub one_globals : (gs hs : List Global) (o p : Option (List Lexeme)) (b c : Stmts)
    → globals gs ++ rest_of o b ≡ globals hs ++ rest_of p c → (gs ≡ hs) × (rest_of o b ≡ rest_of p c)
one_globals [] [] o p b c e = (refl, e)
one_globals (Scalar x ∷ gs) (Scalar y ∷ hs) o p b c e =
    let all = tokens_too _ _ e in
    let names : x ≡ y = cc in
    let tail : globals gs ++ rest_of o b ≡ globals hs ++ rest_of p c = cc in
    let rest = one_globals gs hs o p b c tail in
    (ap (λ (u : List ℕ). Scalar u ∷ gs) names ∙ ap (λ (us : List Global). Scalar y ∷ us) rest.0, rest.1)
one_globals (Array x n ∷ gs) (Array y m ∷ hs) o p b c e =
    let all = tokens_too _ _ e in
    let names : x ≡ y = cc in
    let lengths : n ≡ m = cc in
    let tail : globals gs ++ rest_of o b ≡ globals hs ++ rest_of p c = cc in
    let rest = one_globals gs hs o p b c tail in (
      ap (λ (u : List ℕ). Array u n ∷ gs) names ∙ ap (λ (u : Option ℕ). Array y u ∷ gs) lengths
          ∙ ap (λ (us : List Global). Array y m ∷ us) rest.0,
      rest.1,
    )
one_globals (Scalar x ∷ gs) (Array y m ∷ hs) o p b c e = (let all = tokens_too _ _ e in absurd cc)
one_globals (Array x n ∷ gs) (Scalar y ∷ hs) o p b c e = (let all = tokens_too _ _ e in absurd cc)
one_globals [] (Scalar y ∷ hs) o p b c e = absurd (no_global o b _ e)
one_globals [] (Array y m ∷ hs) o p b c e = absurd (no_global o b _ e)
one_globals (Scalar x ∷ gs) [] o p b c e = absurd (no_global p c _ (sym e))
one_globals (Array x n ∷ gs) [] o p b c e = absurd (no_global p c _ (sym e))

pub one_boxes : (o p : Option (List Lexeme)) (b c : Stmts) → rest_of o b ≡ rest_of p c
    → (o ≡ p) × (main_part b ≡ main_part c)
one_boxes None None b c e = (refl, e)
one_boxes (Some l) (Some k) b c e =
    let all = tokens_too _ _ e in
    let lines : l ≡ k = cc in
    (ap (λ (u : List Lexeme). Some u) lines, cc)
one_boxes None (Some k) b c e = (let all = tokens_too _ _ e in absurd cc)
one_boxes (Some l) None b c e = (let all = tokens_too _ _ e in absurd cc)

abbrev text : List Global → Option (List Lexeme) → Stmts → Text
text gs o b = record { globals = gs; boxes = o; body = b }

pub text_is : (gs hs : List Global) (o p : Option (List Lexeme)) (b c : Stmts) → gs ≡ hs → o ≡ p → b ≡ c
    → text gs o b ≡ text hs p c
text_is gs hs o p b c e f g =
    ap (λ (u : List Global). text u o b) e ∙ ap (λ (u : Option (List Lexeme)). text hs u b) f
    ∙ ap (λ (u : Stmts). text hs p u) g

-- Calls of printf with one number, which are print: printf("%lu\n", e), printf("%llu\n", e), printf("%" PRIu64 "\n", e). Of
-- printf("%d\n", e) the text is left before e, which has to be seen to be a number of the type int.
use Rattle.std.specs.Prelude.{ℕ, zero, suc, Bool, true, false, ◌&&◌, ◌||◌, if◌then◌else◌, List, [], ◌∷◌, codes}
use Rattle.c_tokens.specs.declared.kind.Sign.TheVariants as sign
use Rattle.c_grammar.specs.Lexeme.{Print}
use Rattle.c_grammar.specs.Terminal.{Terminal, Fixed, Mark, Name, Unknown, same}
use Rattle.c_grammar.specs.Texts.{Item}
use Rattle.c_grammar.specs.Blocks.{Items, is_directive, bare, at}

-- these tokens stand at the front
abbrev pub begins_with : List Terminal → Items → Bool
begins_with [] is = true
begins_with (t ∷ ts) [] = false
begins_with (t ∷ ts) (i ∷ is) = same t i.terminal && begins_with ts is

-- what stands behind printf, before the number
abbrev pub one_text : List Terminal
one_text = Mark sign.OpenParen ∷ Mark sign.FormatNumber ∷ Mark sign.Comma ∷ []

abbrev pub joined_text : List Terminal
joined_text =
    Mark sign.OpenParen ∷ Mark sign.FormatStart ∷ Name (codes "PRIu64") ∷ Mark sign.FormatEnd ∷ Mark sign.Comma ∷ []

abbrev pub int_text : List Terminal
int_text = Mark sign.OpenParen ∷ Mark sign.FormatInt ∷ Mark sign.Comma ∷ []

-- how many tokens of that are left out behind the bracket, or 0
abbrev pub text_len : Items → ℕ
text_len is =
    if begins_with one_text is then 2
    else (if begins_with joined_text is then 4 else (if begins_with int_text is then 1 else 0))

abbrev pub is_text : Terminal → Bool
is_text t =
    same (Mark sign.FormatNumber) t || same (Mark sign.FormatStart) t || same (Mark sign.FormatEnd) t ||
    same (Mark sign.FormatInt) t

-- the token by itself: a text in any other place is no token of the language
abbrev pub alone : Item Terminal → Item Terminal
alone i = if is_text i.terminal then at i Unknown else i

abbrev pub print_at : Item Terminal → ℕ → (ℕ → Items) → Items
print_at i zero go = alone i ∷ go 0
print_at i (suc n) go =
    if same (Name (codes "printf")) i.terminal then at i (Fixed Print) ∷ go (suc n) else alone i ∷ go 0

-- the bracket stays, and the text of a number of the type int
abbrev pub stays : Terminal → Bool
stays t = same (Mark sign.OpenParen) t || same (Mark sign.FormatInt) t

abbrev pub print_on : ℕ → Item Terminal → ℕ → (ℕ → Items) → Items
print_on (suc k) i n go = if stays i.terminal then i ∷ go (suc k) else go k
print_on zero i n go = print_at i n go

-- the tokens with print for printf, of which k more are left out behind a bracket
unfoldable pub printed : ℕ → Items → Items
printed k [] = []
printed k (i ∷ is) =
    if is_directive i.terminal then i ∷ printed k is else print_on k i (text_len (bare is)) (λ k. printed k is)

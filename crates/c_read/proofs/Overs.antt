-- What is read behind the line of a directive.
use Rattle.std.proofs.Common.{◌≡◌, ℕ, true, false, Vec, Global, sym, ap, subst, inl, inr}
use Rattle.base.specs.declared.tree.Data.{Data}
use Rattle.base.specs.declared.tree.Region.{Region}
use Rattle.base.specs.declared.tree.Target.{Target}
use Rattle.base.specs.declared.tree.Part.{Part, Data as DataOf}
use Rattle.base.specs.declared.tree.Part.TheVariants as part
use Rattle.c_grammar.specs.Rules.{inside}
use Rattle.c_expressions.specs.declared.cursor.Cursor.{Cursor}
use Rattle.c_expressions.specs.declared.scope.Scope.{Scope}
use Rattle.c_expressions.specs.Means.{Items, place_of}
use Rattle.c_expressions.specs.Cursor.{items, first_item, behind}
use Rattle.c_expressions.specs.Reading.{is_directive}
use Rattle.c_expressions.specs.Scopes.{context_of}
use Rattle.c_statements.specs.Simple.{env_of}
use Rattle.c_constructs.specs.declared.resolved.Construct.{Construct}
use Rattle.c_constructs.specs.declared.resolved.Construct.TheVariants as construct
use Rattle.c_constructs.specs.declared.resolved.Resolved.TheVariants as resolved
use Rattle.c_constructs.specs.LineMeaning.{IsRead, scope_behind}
use Rattle.c_read.specs.declared.piece.Piece.TheVariants as piece
use Rattle.c_read.specs.Parts.{AreLongest}
use Rattle.c_read.specs.Read.{AreDataRead, IsOverRead, IsPieceRead, IsRegionRead}
use Rattle.c_read.proofs.Directed.{read_data_block, read_data_loop, read_region_block, read_region_loop}

read_target : (depth : ℕ) (old mid new : Scope) (u u' : Cursor) (after : Items) (g : Target) (r : Region) →
    is_directive (first_item u).terminal ≡ true → behind u ≡ items u' → env_of mid ≡ env_of old →
    IsRead (env_of old).names (first_item u) (behind u) (resolved.Over (construct.Target g depth)) → r.place ≡ place_of (items u') →
    inside (context_of new 0 0) ≡ inside (context_of mid 0 0) →
    IsRegionRead depth (env_of mid) (env_of new) (items u') after r.body.items → r.depth ≡ depth →
    IsPieceRead (env_of old) (env_of new) (items u) after (piece.Part (part.Target g r))
read_target depth old mid new u u' after g r e d same line place within (inl b) deep =
    read_region_block depth old mid new u u' after g r e d same line place b.0 deep b.1
read_target depth old mid new u u' after g r e d same line place within (inr x) deep =
    read_region_loop depth old mid new u u' after g r x.0 e d same line place x.1 deep within x.2

read_data : (old mid new : Scope) (u u' : Cursor) (after : Items) (g : Data) (v : Vec Part Global) →
    is_directive (first_item u).terminal ≡ true → behind u ≡ items u' → env_of mid ≡ env_of old →
    IsRead (env_of old).names (first_item u) (behind u) (resolved.Over (construct.Data g)) → AreLongest false v.items →
    AreDataRead (env_of mid) (env_of new) (items u') after v.items →
    IsPieceRead (env_of old) (env_of new) (items u) after (piece.Part (DataOf g v))
read_data old mid new u u' after g v e d same line longest (inl b) =
    read_data_block old mid new u u' after g v e d same line longest b
read_data old mid new u u' after g v e d same line longest (inr x) =
    read_data_loop old mid new u u' after g v x.0 e d same line x.1 x.2 x.3

pub read_over : (old mid new : Scope) (u u' : Cursor) (after : Items) (c : Construct) (p : Part) →
    is_directive (first_item u).terminal ≡ true → behind u ≡ items u' → mid ≡ scope_behind (resolved.Over c) old →
    IsRead (env_of old).names (first_item u) (behind u) (resolved.Over c) →
    inside (context_of new 0 0) ≡ inside (context_of mid 0 0) →
    IsOverRead (env_of mid) (env_of new) c (items u') after p →
    IsPieceRead (env_of old) (env_of new) (items u) after (piece.Part p)
read_over old mid new u u' after (construct.Target g depth) p e d s line within r =
    subst (λ (q : Part). IsPieceRead (env_of old) (env_of new) (items u) after (piece.Part q)) (sym r.1)
    (read_target depth old mid new u u' after g r.0 e d (ap env_of s) line r.2 within r.3 r.4)
read_over old mid new u u' after (construct.Data g) p e d s line within r =
    subst (λ (q : Part). IsPieceRead (env_of old) (env_of new) (items u) after (piece.Part q)) (sym r.1)
    (read_data old mid new u u' after g r.0 e d (ap env_of s) line r.2 r.3)

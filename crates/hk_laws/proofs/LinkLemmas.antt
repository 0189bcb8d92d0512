-- The links of a text and the text with roots are those of its cutting.
use Rattle.std.proofs.Common.{◌≡◌, Bool, true, false, not, nat_eq, codes, if◌then◌else◌, List, [], ◌∷◌, ◌++◌, refl, sym, ap, subst, append_assoc, Decides}
use Rattle.std.specs.List.{flat_map, starts_with}
use Rattle.std.specs.Str.{str_eq_ignore_ascii_case}
use Rattle.std.proofs.lemmas.Bool.{and_parts}
use Rattle.std.proofs.lemmas.Bool.Decides.{Decides-or}
use Rattle.hk_base.specs.Bytes.{Bytes}
use Rattle.hk_html.specs.Part.{Part, mark, bare, valued, part_links, part_with_root, is_link, is_rooted, with_root}
use Rattle.hk_html.specs.Piece.{Piece, comment, tag, unfinished, other, piece_links, piece_with_root}
use Rattle.hk_html.specs.Relative.{links_of, with_roots}
use Rattle.hk_laws.specs.Links.{HoldsUrl, BeginsLinks, PartsLinks, HasLinks, IsRootUrl, IsRooted, PartRooted, PartsRooted, PieceRooted, HasRoots, LinksOfEach, RootsOfEach}
use Rattle.hk_laws.proofs.LetterLemmas.{same_letters}
use Rattle.hk_laws.proofs.WordLemmas.{tells_word}
use Rattle.hk_laws.proofs.CutLemmas.{cutting_is}

tells_url : (name : Bytes) → Decides (is_link name) (HoldsUrl name)
tells_url name = Decides-or (str_eq_ignore_ascii_case name (codes "href")) (str_eq_ignore_ascii_case name (codes "src")) (same_letters name (codes "href")) (same_letters name (codes "src"))

begins_links : (name value : Bytes) (After : List Bytes → Type 0) (more : List Bytes) → After more → BeginsLinks name value After ((if is_link name then value ∷ [] else []) ++ more)
begins_links name value After more after =
    elim (is_link name) as (λ b. is_link name ≡ b → BeginsLinks name value After ((if b then value ∷ [] else []) ++ more)) [
      | true ↦ λ e. record { url = λ _. (more, refl, after); none = λ none. absurd (none ((tells_url name).0 e)) }
      | false ↦ λ e. record { url = λ url. let yes_ = (tells_url name).1 url in cc; none = λ _. after }
    ] refl

parts_links : (parts : List Part) → PartsLinks parts (flat_map part_links parts)
parts_links [] = refl
parts_links (mark b ∷ parts) = parts_links parts
parts_links (bare text ∷ parts) = parts_links parts
parts_links (valued name between value close ∷ parts) = begins_links name value (PartsLinks parts) (flat_map part_links parts) (parts_links parts)

has_links : (cut : List Piece) → HasLinks cut (flat_map piece_links cut)
has_links [] = refl
has_links (comment text ∷ more) = has_links more
has_links (tag head parts raw ∷ more) = (flat_map part_links parts, flat_map piece_links more, refl, parts_links parts, has_links more)
has_links (unfinished text ∷ more) = has_links more
has_links (other b ∷ more) = has_links more

pub links_of_each : LinksOfEach links_of
links_of_each text cut is = subst (λ (all : List Piece). HasLinks cut (flat_map piece_links all)) (sym (cutting_is text cut is)) (has_links cut)

is_root_url : (url : Bytes) → is_rooted url ≡ true → IsRootUrl url
is_root_url url e =
    let tests = and_parts (starts_with nat_eq url (codes "/")) (not (starts_with nat_eq url (codes "//"))) e in
    record {
      slash = (tells_word (codes "/") url).0 tests.0;
      one = λ two. let yes_ = (tells_word (codes "//") url).1 two in let no_ = tests.1 in let bad : not true ≡ true = rw yes_ at no_ in cc;
    }

no_root_url : (url : Bytes) → is_rooted url ≡ false → IsRootUrl url → ⊥
no_root_url url e is =
    let slash = (tells_word (codes "/") url).1 is.slash in
    let e' : not (starts_with nat_eq url (codes "//")) ≡ false = rw slash at e in
    is.one ((tells_word (codes "//") url).0 (go (starts_with nat_eq url (codes "//")) e'))
  where
    go : (b : Bool) → not b ≡ false → b ≡ true
    go true none = refl
    go false none = sym none

rooted_text : (root name between value close : Bytes) → name ++ (between ++ ((root ++ value) ++ close)) ≡ name ++ (between ++ (root ++ (value ++ close)))
rooted_text root name between value close = ap (λ (t : Bytes). name ++ (between ++ t)) (append_assoc root value close)

is_rooted_text : (root name between value close : Bytes) → IsRooted root name between value close (name ++ (between ++ ((if is_link name then with_root root value else value) ++ close)))
is_rooted_text root name between value close =
    elim (is_link name) as (λ b. is_link name ≡ b → IsRooted root name between value close (name ++ (between ++ ((if b then with_root root value else value) ++ close)))) [
      | true ↦ λ e. elim (is_rooted value) as (λ b. is_rooted value ≡ b → IsRooted root name between value close (name ++ (between ++ ((if b then root ++ value else value) ++ close)))) [
        | true ↦ λ f. record { rooted = λ _ _. rooted_text root name between value close; kept = λ none. absurd (none ((tells_url name).0 e) (is_root_url value f)) }
        | false ↦ λ f. record { rooted = λ _ is. absurd (no_root_url value f is); kept = λ _. refl }
      ] refl
      | false ↦ λ e. record { rooted = λ url _. let yes_ = (tells_url name).1 url in cc; kept = λ _. refl }
    ] refl

part_rooted : (root : Bytes) (part : Part) → PartRooted root part (part_with_root root part)
part_rooted root (mark b) = refl
part_rooted root (bare text) = refl
part_rooted root (valued name between value close) = is_rooted_text root name between value close

parts_rooted : (root : Bytes) (parts : List Part) → PartsRooted root parts (flat_map (part_with_root root) parts)
parts_rooted root [] = refl
parts_rooted root (part ∷ parts) = (part_with_root root part, flat_map (part_with_root root) parts, refl, part_rooted root part, parts_rooted root parts)

piece_rooted : (root : Bytes) (piece : Piece) → PieceRooted root piece (piece_with_root root piece)
piece_rooted root (comment text) = refl
piece_rooted root (tag head parts raw) = (flat_map (part_with_root root) parts, refl, parts_rooted root parts)
piece_rooted root (unfinished text) = refl
piece_rooted root (other b) = refl

has_roots : (root : Bytes) (cut : List Piece) → HasRoots root cut (flat_map (piece_with_root root) cut)
has_roots root [] = refl
has_roots root (piece ∷ more) = (piece_with_root root piece, flat_map (piece_with_root root) more, refl, piece_rooted root piece, has_roots root more)

pub roots_of_each : RootsOfEach with_roots
roots_of_each root text cut is = subst (λ (all : List Piece). HasRoots root cut (flat_map (piece_with_root root) all)) (sym (cutting_is text cut is)) (has_roots root cut)

-- The entries of a map as keys and values.
use Rattle.std.proofs.Common.{◌≡◌, Bool, true, false, cond, nat_eq, List, [], ◌∷◌, ◌++◌, map, Option, Some, None, option_map, is_some, refl, ap, sym}
use Rattle.std.specs.Cmp.Lexicographic.{pointwise}
use Rattle.std.specs.Map.{lookup}
use Rattle.indexmap.specs.IndexMap.{insert_entry}
use Rattle.hk_base.specs.Bytes.{Bytes}
use Rattle.hk_meta.specs.Metadata.{Pair, Pairs, same_name, value_of, put, add_absent}

module _ {K V : Type 0} (key_bytes : K → Bytes) (value_bytes : V → Bytes) where
  abbrev pub pair_of : K × V → Pair
  pair_of e = (key_bytes e.0, value_bytes e.1)

  -- a look-up in the entries is one in the pairs
  pub value_of-entries : (key : Bytes) (es : List (K × V)) → option_map value_bytes (lookup (λ k. pointwise nat_eq key (key_bytes k)) es) ≡ value_of key (map pair_of es)
  value_of-entries key [] = refl
  value_of-entries key (e ∷ es) = by (pointwise nat_eq key (key_bytes e.0)) (value_of-entries key es)
    where
      by : (b : Bool) → option_map value_bytes (lookup (λ k. pointwise nat_eq key (key_bytes k)) es) ≡ value_of key (map pair_of es) → option_map value_bytes (cond b (Some e.1) (lookup (λ k. pointwise nat_eq key (key_bytes k)) es)) ≡ cond b (Some (value_bytes e.1)) (value_of key (map pair_of es))
      by true rest = refl
      by false rest = rest

  -- an insert among the entries is a put among the pairs
  pub put-entries : (key : K) (value : V) (es : List (K × V)) → map pair_of (insert_entry (λ a b. pointwise nat_eq (key_bytes a) (key_bytes b)) es key value) ≡ put (key_bytes key) (value_bytes value) (map pair_of es)
  put-entries key value [] = refl
  put-entries key value (e ∷ es) = by (pointwise nat_eq (key_bytes key) (key_bytes e.0)) (put-entries key value es)
    where
      by : (b : Bool) → map pair_of (insert_entry (λ a b. pointwise nat_eq (key_bytes a) (key_bytes b)) es key value) ≡ put (key_bytes key) (value_bytes value) (map pair_of es) → map pair_of (cond b ((e.0, value) ∷ es) (e ∷ insert_entry (λ a b. pointwise nat_eq (key_bytes a) (key_bytes b)) es key value)) ≡ cond b ((key_bytes e.0, value_bytes value) ∷ map pair_of es) (pair_of e ∷ put (key_bytes key) (value_bytes value) (map pair_of es))
      by true rest = refl
      by false rest = ap (λ t. pair_of e ∷ t) rest

-- a put of a key that isn't there goes last
pub put-absent : (key value : Bytes) (ps : Pairs) → is_some (value_of key ps) ≡ false → put key value ps ≡ ps ++ ((key, value) ∷ [])
put-absent key value [] absent = refl
put-absent key value (p ∷ ps) absent = by (same_name key p.0) (put-absent key value ps) absent
  where
    by : (b : Bool) → (is_some (value_of key ps) ≡ false → put key value ps ≡ ps ++ ((key, value) ∷ [])) → is_some (cond b (Some p.1) (value_of key ps)) ≡ false → cond b ((p.0, value) ∷ ps) (p ∷ put key value ps) ≡ p ∷ (ps ++ ((key, value) ∷ []))
    by true rest absent = cc
    by false rest absent = ap (λ t. p ∷ t) (rest absent)

pub add_absent-put : (key value : Bytes) (ps : Pairs) → is_some (value_of key ps) ≡ false → put key value ps ≡ add_absent ps (key, value)
add_absent-put key value ps absent = by (is_some (value_of key ps)) absent (put-absent key value ps absent)
  where
    by : (b : Bool) → b ≡ false → put key value ps ≡ ps ++ ((key, value) ∷ []) → put key value ps ≡ cond b ps (ps ++ ((key, value) ∷ []))
    by true absent last = cc
    by false absent last = last

-- what a look-up through a reference lacks isn't there
pub absent-from_map : {X Y : Type 0} (f : X → Y) (r : Option X) (o : Option Y) → option_map f r ≡ o → is_some r ≡ false → is_some o ≡ false
absent-from_map f None o e absent = sym (ap is_some e)
absent-from_map f (Some x) o e absent = cc

-- A put lets no key stand twice.
use Rattle.std.proofs.Common.{◌≡◌, Bool, true, false, ◌&&◌, cond, [], ◌∷◌, Option, Some, None, refl, ap, ◌∙◌}
use Rattle.std.specs.Option.{is_none}
use Rattle.std.proofs.lemmas.Cmp.{nat_list_eq_equiv}
use Rattle.hk_base.specs.Bytes.{Bytes}
use Rattle.hk_meta.specs.Metadata.{Pairs, same_name, value_of, put, keys_differ}

pub both : (a b c d : Bool) → (a ≡ true → c ≡ true) → (b ≡ true → d ≡ true) → (a && b) ≡ true → (c && d) ≡ true
both true true c d f g e = let h : c ≡ true = f refl in rw h (g refl)
both true false c d f g e = cc
both false b c d f g e = cc

pub none-given : (b : Bool) (v w : Bytes) (o : Option Bytes) → is_none (cond b (Some v) o) ≡ true → is_none (cond b (Some w) o) ≡ true
none-given true v w o e = cc
none-given false v w o e = e

pub none-rest : (b : Bool) (v : Bytes) (o r : Option Bytes) → (is_none o ≡ true → is_none r ≡ true) → is_none (cond b (Some v) o) ≡ true → is_none (cond b (Some v) r) ≡ true
none-rest true v o r f e = cc
none-rest false v o r f e = f e

-- another key is absent as before
pub absent-put : (key value other : Bytes) (ps : Pairs) → same_name key other ≡ false → is_none (value_of other ps) ≡ true → is_none (value_of other (put key value ps)) ≡ true
absent-put key value other [] apart absent =
    ap (λ b. is_none (cond b (Some value) None)) (nat_list_eq_equiv.symm other key ∙ apart)
absent-put key value other (p ∷ ps) apart absent = by (same_name key p.0) (absent-put key value other ps apart) absent
  where
    by : (b : Bool) → (is_none (value_of other ps) ≡ true → is_none (value_of other (put key value ps)) ≡ true) → is_none (value_of other (p ∷ ps)) ≡ true → is_none (value_of other (cond b ((p.0, value) ∷ ps) (p ∷ put key value ps))) ≡ true
    by true rest absent = none-given (same_name other p.0) p.1 value (value_of other ps) absent
    by false rest absent = none-rest (same_name other p.0) p.1 (value_of other ps) (value_of other (put key value ps)) rest absent

pub keys_differ-put : (key value : Bytes) (ps : Pairs) → keys_differ ps ≡ true → keys_differ (put key value ps) ≡ true
keys_differ-put key value [] differ = refl
keys_differ-put key value (p ∷ ps) differ = by (same_name key p.0) refl (keys_differ-put key value ps) differ
  where
    by : (b : Bool) → same_name key p.0 ≡ b → (keys_differ ps ≡ true → keys_differ (put key value ps) ≡ true) → keys_differ (p ∷ ps) ≡ true → keys_differ (cond b ((p.0, value) ∷ ps) (p ∷ put key value ps)) ≡ true
    by true e rest differ = differ
    by false e rest differ =
        both (is_none (value_of p.0 ps)) (keys_differ ps) (is_none (value_of p.0 (put key value ps))) (keys_differ (put key value ps)) (absent-put key value p.0 ps e) rest differ

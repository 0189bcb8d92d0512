-- What the removal of all files leaves and counts.
use Rattle.std.proofs.Common.{◌≡◌, ℕ, suc, ◌+◌, Bool, true, false, not, cond, List, [], ◌∷◌, ◌++◌, length, map, Option, Some, None, refl, sym, ap, subst, ◌∙◌, arith, IfSome, IfOk, Result, Ok, Err, ◌⊎◌, inl, inr}
use Rattle.std.specs.List.{AllByRecursion, filter}
use Rattle.std.specs.Ordering.{nat_cmp, eq_by_cmp}
use Rattle.std.specs.Cmp.Lexicographic.{nat_list_cmp_total, slice_cmp}
use Rattle.std.specs.FinMap.{empty, from_entries, get, get-from_entries, get-remove, keys, remove}
use Rattle.hk_base.specs.Bytes.{Bytes, Files}
use Rattle.hk_base.specs.Ties.{ties-same, ties-self}
use Rattle.hk_base.specs.declared.refusal.NoMemory.{NoMemory as NoMemory-data}
use Rattle.hk_outside.specs.Causes.{Rose}
use Rattle.hk_texts.specs.Printed.{removed_line, store_unremoved_line}
use Rattle.hk_writer.specs.Writing.{Change, removal, writing, after, changes, removals, writings, HeldOrNone, IsMadeInPart, IsTorn, IsTornInPart}
use Rattle.hk_writer.specs.Written.{IsWritten}
use Rattle.hk_writer.specs.declared.writer.Counts.{Counts}
use Rattle.hk_app.specs.declared.ended.Ended.{Ended}
use Rattle.hk_app.specs.declared.status.Status.{Status}
use Rattle.hk_app.specs.declared.status.Status.TheVariants.{Ok as Done, Report, Usage, BadRules, BadSite, ReadFault, WriteFault, StoreFault, OutFault, NoMemory}
use Rattle.hk_app.specs.Cleaning.{ClearedAs, ClearsCache}
use Rattle.hk_app.specs.Standing.{IsCleared, LostSome}
use Rattle.hk_app.specs.World.{Folder, folder}
use Rattle.hk_app.proofs.BuildEnds.{when-known}

abbrev IsRemoval : Change → Type 0
IsRemoval (removal path) = Unit {0}
IsRemoval (writing path bytes) = ⊥

removals-all : (ks : List Bytes) → AllByRecursion IsRemoval (removals [] ks ++ [])
removals-all [] = tt
removals-all (k ∷ ks) = (tt, removals-all ks)

removals-count : (ks : List Bytes) → length (removals [] ks) ≡ length ks
removals-count [] = refl
removals-count (k ∷ ks) = ap suc (removals-count ks)

all-left : (a b : List Change) → AllByRecursion IsRemoval (a ++ b) → AllByRecursion IsRemoval a
all-left [] b h = tt
all-left (c ∷ a) b h = (h.0, all-left a b h.1)

all-right : (a b : List Change) → AllByRecursion IsRemoval (a ++ b) → AllByRecursion IsRemoval b
all-right [] b h = h
all-right (c ∷ a) b h = all-right a b h.1

-- ---- paths hold what they held, or nothing

held-on : (path : Bytes) (m n o : Files) → HeldOrNone path m n → HeldOrNone path n o → HeldOrNone path m o
held-on path m n o (inl a) (inl b) = inl (b ∙ a)
held-on path m n o (inr a) (inl b) = inr (b ∙ a)
held-on path m n o a (inr b) = inr b

held-removed : (p path : Bytes) (m : Files) → HeldOrNone path m (remove m p)
held-removed p path m =
    elim (eq_by_cmp (slice_cmp nat_cmp) path p) as (λ b. eq_by_cmp (slice_cmp nat_cmp) path p ≡ b → HeldOrNone path m (remove m p)) [
      | true ↦ λ t. inr (get-remove nat_list_cmp_total m p path ∙ ap (λ b. cond b None (get m path)) t)
      | false ↦ λ t. inl (get-remove nat_list_cmp_total m p path ∙ ap (λ b. cond b None (get m path)) t)
    ] refl

held-after : (cs : List Change) → AllByRecursion IsRemoval cs → (m : Files) (path : Bytes) → HeldOrNone path m (after cs m)
held-after [] h m path = inl refl
held-after (removal p ∷ cs) h m path = held-on path m (remove m p) (after cs (remove m p)) (held-removed p path m) (held-after cs h.1 (remove m p) path)
held-after (writing p bytes ∷ cs) h m path = absurd h.0

clash : (b : Bool) → b ≡ false → b ≡ true → ⊥
clash b f t = let twice : false ≡ true = sym f ∙ t in cc

held-torn : (cs : List Change) → AllByRecursion IsRemoval cs → (m n : Files) → IsTorn cs m n → (path : Bytes) → HeldOrNone path m n
held-torn [] h m n is path = inl (ap (λ o. get o path) is)
held-torn (removal p ∷ cs) h m n is path =
    elim (eq_by_cmp (slice_cmp nat_cmp) path p) as (λ b. eq_by_cmp (slice_cmp nat_cmp) path p ≡ b → HeldOrNone path m n) [
      | true ↦ λ t. subst (λ q. HeldOrNone q m n) (sym (ties-same path p t)) is.1
      | false ↦ λ f. inl (is.0 path (λ e. clash (eq_by_cmp (slice_cmp nat_cmp) path p) f (subst (λ q. eq_by_cmp (slice_cmp nat_cmp) path q ≡ true) e (ties-self path))))
    ] refl
held-torn (writing p bytes ∷ cs) h m n is path = absurd h.0

lost-in-part : (m n : Files) → IsMadeInPart (changes [] m) m n → (path : Bytes) → HeldOrNone path m n
lost-in-part m n h path =
    let all : AllByRecursion IsRemoval (h.made ++ h.left) = subst (AllByRecursion IsRemoval) (sym h.split) (removals-all (keys m)) in
    subst (λ o. HeldOrNone path m o) (sym h.now) (held-after h.made (all-left h.made h.left all) m path)

torn-in-part : (m n : Files) → IsTornInPart (changes [] m) m n → (path : Bytes) → HeldOrNone path m n
torn-in-part m n h path =
    let all : AllByRecursion IsRemoval (h.made ++ h.left) = subst (AllByRecursion IsRemoval) (sym h.split) (removals-all (keys m)) in
    held-on path m (after h.made m) n (held-after h.made (all-left h.made h.left all) m path) (held-torn h.left (all-right h.made h.left all) (after h.made m) n h.now path)

-- ---- over folders that may tell their files

some-both : (P Q : Files → Files → Type 0) → ((m n : Files) → P m n → Q m n) → (old new : Option Files) → IfSome old (λ m. IfSome new (P m)) → IfSome old (λ m. IfSome new (Q m))
some-both P Q f None new h = tt
some-both P Q f (Some m) None h = tt
some-both P Q f (Some m) (Some n) h = f m n h

pub lost-wanting : (W : Type 0) (old new : Option Files) → IfSome old (λ m. W → IfSome new (IsMadeInPart (changes [] m) m)) → W → IfSome old (λ m. IfSome new (λ n. (path : Bytes) → HeldOrNone path m n))
lost-wanting W old new h w = some-both (λ m. IsMadeInPart (changes [] m) m) (λ m n. (path : Bytes) → HeldOrNone path m n) lost-in-part old new (when-known old W (λ m. IfSome new (IsMadeInPart (changes [] m) m)) h w)

pub lost-failed : (W : Type 0) (old new : Option Files) → IfSome old (λ m. W → IfSome new (IsTornInPart (changes [] m) m)) → W → IfSome old (λ m. IfSome new (λ n. (path : Bytes) → HeldOrNone path m n))
lost-failed W old new h w = some-both (λ m. IsTornInPart (changes [] m) m) (λ m n. (path : Bytes) → HeldOrNone path m n) torn-in-part old new (when-known old W (λ m. IfSome new (IsTornInPart (changes [] m) m)) h w)

pub lost-all : (old new : Option Files) → IfSome old (λ m. new ≡ Some empty) → IfSome old (λ m. IfSome new (λ n. (path : Bytes) → HeldOrNone path m n))
lost-all None new h = tt
lost-all (Some m) new h = subst (λ o. IfSome o (λ n. (path : Bytes) → HeldOrNone path m n)) (sym h) (λ path. inr (get-from_entries nat_list_cmp_total [] path))

pub cleared : (old new : Option Files) (counts : Counts) → IfSome old (λ m. IsWritten [] m new counts) → IfSome old (λ m. new ≡ Some empty)
cleared None new counts h = tt
cleared (Some m) new counts h = h.exactly

pub removed-all : (old new : Option Files) (counts : Counts) → IfSome old (λ m. IsWritten [] m new counts) → IfSome old (λ m. counts.removed ≡ length (keys m))
removed-all None new counts h = tt
removed-all (Some m) new counts h = h.removed ∙ removals-count (keys m)

-- ---- the cache

told-count : (before : ℕ) (text : Bytes) (old : Option Files) (n : ℕ) → text ≡ removed_line (before + n) → IfSome old (λ m. n ≡ length (keys m)) → IfSome old (λ k. text ≡ removed_line (before + length (keys k)))
told-count before text None n is h = tt
told-count before text (Some m) n is h = is ∙ ap (λ k. removed_line (before + k)) h

pub clears-done : (before : ℕ) (old new : Folder) (counts : Counts) (text : Bytes) → IfSome old.files (λ m. IsWritten [] m new.files counts) → text ≡ removed_line (before + counts.removed)
    → IsCleared old new × IfSome old.files (λ k. text ≡ removed_line (before + length (keys k)))
clears-done before old new counts text h is = (cleared old.files new.files counts h, told-count before text old.files counts.removed is (removed-all old.files new.files counts h))

pub clears-failed : (before : ℕ) (old new : Folder) (r : Result Ended NoMemory-data) → Rose old.faults new.faults → LostSome old new
    → IfOk r (λ e. (e.status ≡ StoreFault) × (e.text ≡ store_unremoved_line)) → ClearsCache before old new r
clears-failed before old new (Ok e) rose lost is = subst (λ s. ClearedAs before old new s e.text) (sym is.0) (rose, (lost, is.1))
clears-failed before old new (Err e) rose lost is = lost

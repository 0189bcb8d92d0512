-- What is taken of an honest store, and what a build over it leaves.
use Rattle.std.proofs.Common.{◌≡◌, ℕ, zero, suc, ◌<◌, List, [], ◌∷◌, ◌++◌, length, append_assoc, Option, refl, sym, ap, subst, ◌∙◌, arith, Result, Ok, Err}
use Rattle.std.specs.List.{flat_map}
use Rattle.std.specs.FinMap.{from_entries}
use Rattle.hk_base.specs.Bytes.{Bytes}
use Rattle.hk_build.specs.Build.{ending, endings, image, is_empty, pages, report, run_of, site_of, with_files}
use Rattle.hk_build.specs.Built.{AreApart, IsClean, left as left-by}
use Rattle.hk_build.proofs.HonestBuilds.{honest-clean}
use Rattle.hk_build.proofs.Numbers.{at-upto, shape-items}
use Rattle.hk_build.proofs.Replayed.{planned-made}
use Rattle.hk_chain.specs.Layout.{final_of}
use Rattle.hk_feed.specs.FeedText.{feed_files}
use Rattle.hk_fix.specs.Fix.{Ending, waiting}
use Rattle.hk_fix.specs.Pages.{Pages}
use Rattle.hk_fix.specs.Report.{ending_at, report_of, upto}
use Rattle.hk_fix.specs.Site as files
use Rattle.hk_machine.specs.Machine.{plan_shape}
use Rattle.hk_reuse.specs.Entries.{AreFormed, Entries, no_entries}
use Rattle.hk_rules.specs.Plan.{lookups}
use Rattle.hk_rules.specs.PlanView.{PlanView}
use Rattle.hk_sites.proofs.HeldIds.{plan-held}
use Rattle.hk_sites.proofs.Lawful.{left-held, left-stored}
use Rattle.hk_sites.proofs.ShaDigests.{sha-sound}
use Rattle.hk_sites.specs.Rebuilding.{list_by}
use Rattle.hk_store.proofs.ReadOnce.{one-answer}
use Rattle.hk_store.specs.Damage.{IsRead}
use Rattle.hk_store.specs.Entry.{EntryView}
use Rattle.hk_store.specs.Told.{Short}
use Rattle.hk_store.specs.Traits.{sha_digests}
use Rattle.hk_store.specs.declared.damage.StoreDamage.{StoreDamage}
use Rattle.hk_app.specs.Taking.{IsReadOf, IsTakenOf, Taken, taken_of}
use Rattle.hk_honest.specs.Honest.{IsHonest, absent, left, damaged}

pub none-formed : AreFormed no_entries
none-formed = λ id e found. cc found

-- over nothing a build is a clean one
pub clean-itself : (plan : PlanView) → IsClean plan no_entries
clean-itself plan = record { pages = refl; endings = refl; image = refl }

pub by-entries : (plan : PlanView) (a b : Entries) → a ≡ b → IsClean plan b → IsClean plan a
by-entries plan a b e h = subst (IsClean plan) (sym e) h

-- the bytes of a clean build's store are read as its entries
pub image-read : (old plan : PlanView) → AreApart old plan → IsRead (image old no_entries) (Ok (list_by sha_digests old (run_of old no_entries)))
unfolding image
image-read old plan apart =
    let made = planned-made old apart.was in
    (left-held sha_digests old made no_entries none-formed sha-sound (plan-held apart.was.rules apart.was.files old apart.was.made), (left-stored sha_digests old made no_entries none-formed, refl))

taken-entries : (bytes : Bytes) → Short bytes → (answer : Result (List EntryView) StoreDamage) → IsRead bytes answer → (t : Taken) → IsReadOf bytes t → t.entries ≡ (taken_of answer).entries
taken-entries bytes short answer read t h = ap (λ (x : Taken). x.entries) h.taken ∙ ap (λ (a : Result (List EntryView) StoreDamage). (taken_of a).entries) (one-answer bytes short h.answer answer h.read read)

pub left-taken : (plan old : PlanView) → AreApart old plan → Short (image old no_entries) → (t : Taken) → IsReadOf (image old no_entries) t → t.entries ≡ left-by old
left-taken plan old apart short t h = taken-entries (image old no_entries) short (Ok (list_by sha_digests old (run_of old no_entries))) (image-read old plan apart) t h

pub damage-taken : (bytes : Bytes) (damage : StoreDamage) → Short bytes → IsRead bytes (Err damage) → (t : Taken) → IsReadOf bytes t → t.entries ≡ no_entries
damage-taken bytes damage short read t h = taken-entries bytes short (Err damage) read t h

clean-left : (plan old : PlanView) → AreApart old plan → Short (image old no_entries) → (t : Taken) → IsReadOf (image old no_entries) t → IsClean plan t.entries
clean-left plan old apart short t h = by-entries plan t.entries (left-by old) (left-taken plan old apart short t h) (honest-clean old plan apart)

clean-damaged : (plan : PlanView) (bytes : Bytes) (damage : StoreDamage) → Short bytes → IsRead bytes (Err damage) → (t : Taken) → IsReadOf bytes t → IsClean plan t.entries
clean-damaged plan bytes damage short read t h = by-entries plan t.entries no_entries (damage-taken bytes damage short read t h) (clean-itself plan)

pub clean-taken : (plan : PlanView) (store : Option Bytes) (t : Taken) → IsHonest plan store → IsTakenOf store t → IsClean plan t.entries
clean-taken plan store t (absent e) h = by-entries plan t.entries no_entries (ap (λ (x : Taken). x.entries) (subst (λ o. IsTakenOf o t) e h)) (clean-itself plan)
clean-taken plan store t (left old apart short e) h = clean-left plan old apart short t (subst (λ o. IsTakenOf o t) e h)
clean-taken plan store t (damaged bytes damage short read e) h = clean-damaged plan bytes damage short read t (subst (λ o. IsTakenOf o t) e h)

-- ---- the site, the report and the store of a build that is a clean one

pub same-report : (plan : PlanView) (e : Entries) → IsClean plan e → is_empty (report plan e) ≡ is_empty (report plan no_entries)
same-report plan e h = ap (λ (x : List Ending). is_empty (report_of (plan_shape plan) x)) h.endings

flat-append : {X : Type 0} (f : ℕ → List X) (xs ys : List ℕ) → flat_map f (xs ++ ys) ≡ flat_map f xs ++ flat_map f ys
flat-append f [] ys = refl
flat-append f (x ∷ xs) ys = ap (λ l. f x ++ l) (flat-append f xs ys) ∙ sym (append_assoc (f x) (flat_map f xs) (flat_map f ys))

flat-upto : {X : Type 0} (f g : ℕ → List X) (n : ℕ) → ((i : ℕ) → i < n → f i ≡ g i) → flat_map f (upto n) ≡ flat_map g (upto n)
flat-upto f g zero each = refl
flat-upto f g (suc n) each =
    flat-append f (upto n) (n ∷ []) ∙ (λ i. flat-upto f g n (λ k lt. each k (omega arith)) i ++ (each n (omega arith) i ++ [])) ∙ sym (flat-append g (upto n) (n ∷ []))

same-end : (plan : PlanView) (e : Entries) → IsClean plan e → (i : ℕ) → i < length plan.items → ending plan e i ≡ ending plan no_entries i
unfolding endings
same-end plan e h i lt =
    sym (at-upto (ending plan e) (length plan.items) i (waiting []) lt) ∙ ap (λ (es : List Ending). ending_at es i) h.endings ∙ at-upto (ending plan no_entries) (length plan.items) i (waiting []) lt

same-items : (plan : PlanView) (e : Entries) → IsClean plan e
    → files.site_of (plan_shape plan) (lookups plan).target_of (ending plan e) (pages plan e) ≡ files.site_of (plan_shape plan) (lookups plan).target_of (ending plan no_entries) (pages plan no_entries)
same-items plan e h =
    let lay = plan_shape plan in
    let target = (lookups plan).target_of in
    ap (λ (k : Pages). files.site_of lay target (ending plan e) k) h.pages
    ∙ ap from_entries (flat-upto (λ i. files.file_of (target i) (ending plan e i) (pages plan no_entries (final_of lay i))) (λ i. files.file_of (target i) (ending plan no_entries i) (pages plan no_entries (final_of lay i))) lay.items
    (λ i lt. ap (λ (o : Ending). files.file_of (target i) o (pages plan no_entries (final_of lay i))) (same-end plan e h i (subst (λ n. i < n) (shape-items plan) lt))))

pub same-site : (plan : PlanView) (e : Entries) → IsClean plan e → site_of plan e ≡ site_of plan no_entries
same-site plan e h = (λ i. with_files (feed_files (lookups plan) (h.pages i) plan.feeds) (same-items plan e h i))

-- What a line of a trace tells.
use Rattle.std.proofs.Common.{◌≡◌, ℕ, zero, suc, ◌<◌, Bool, true, false, cond, not, ◌==◌, ◌||◌, List, [], ◌∷◌, ◌++◌, length, get_or, nat_lt, Option, Some, None, refl, sym, ap, ◌∙◌, arith, append_assoc}
use Rattle.std.specs.Prelude.{codes}
use Rattle.std.specs.List.{AllByRecursion, list_all}
use Rattle.std.proofs.lemmas.List.{append_cancel_left, length-map}
use Rattle.hk_base.proofs.Both.{right-part}
use Rattle.hk_base.specs.Bytes.{Bytes}
use Rattle.hk_base.specs.Identifier.{Ident, is_plain, path_fault, is_version, version_fault, first_of, print_ident, print_version}
use Rattle.hk_base.specs.declared.identifier.IdentFault.{IdentFault}
use Rattle.hk_base.specs.declared.identifier.IdentFault.TheVariants.{EmptyPath, PathTooLong, BadByte, BadVersion}
use Rattle.hk_chain.specs.Layout.{item_of, pairs}
use Rattle.hk_chain.specs.Names.{final_name}
use Rattle.hk_chain.proofs.Spans.{layout-near}
use Rattle.hk_fix.specs.declared.event.Event.{Event}
use Rattle.hk_fix.specs.declared.event.Event.TheVariants.{Begin, Saved, Done, Failed}
use Rattle.hk_forms.specs.Names.{is_name_byte, is_snapshot_name}
use Rattle.hk_rules.proofs.PairNumbers.{all-at, linked-chain, pair_of-name}
use Rattle.hk_rules.specs.LinkedPlan.{IsLinkedPlan}
use Rattle.hk_rules.specs.Pairs.{count_of, counts, layout, saves}
use Rattle.hk_rules.specs.Plan.{Lookups, lookups, chain_at, id_at, no_item, pair_name_of, pair_of, pair_owner}
use Rattle.hk_rules.specs.PlanView.{PlanView}
use Rattle.hk_store.specs.Stored.{HeldId}
use Rattle.hk_texts.specs.ReportText.{item_text}
use Rattle.hk_texts.specs.Telling.{HasIdentifiers, PrintApart}
use Rattle.hk_texts.specs.TraceText.{IsEventWithin, event_line}
use Rattle.hk_texts.proofs.Separated.{Lacks, lacks-by, lacks-append, last-parts}

-- ---- an identifier has no LF

past : (b : Bool) (fault : IdentFault) (more : Option IdentFault) → cond b (Some fault) more ≡ None → (b ≡ false) × (more ≡ None)
past true fault more e = cc
past false fault more e = (refl, e)

no-fault : (first later : Option IdentFault) → first_of first later ≡ None → (first ≡ None) × (later ≡ None)
no-fault None later e = (refl, e)
no-fault (Some fault) later e = cc

turned : (b : Bool) → not b ≡ false → b ≡ true
turned true e = refl
turned false e = cc

path-plain : (path : Bytes) → path_fault path ≡ None → list_all is_plain path ≡ true
path-plain path e =
    let some = past (length path == 0) EmptyPath _ e in
    let short = past (nat_lt 1024 (length path)) PathTooLong _ some.1 in
    let plain = past (not (list_all is_plain path)) BadByte _ short.1 in
    turned (list_all is_plain path) plain.0

is-version : (b : Bool) → cond b None (Some BadVersion) ≡ None → b ≡ true
is-version true e = refl
is-version false e = cc

version-lacks : (version : Option Bytes) → version_fault version ≡ None → Lacks 10 (print_version version)
version-lacks None e = tt
version-lacks (Some version) e =
    let plain : list_all is_plain version ≡ true = right-part (not (length version == 0 || nat_lt 64 (length version))) (list_all is_plain version) (is-version (is_version version) e) in
    lacks-append 10 (32 ∷ 40 ∷ []) (version ++ 41 ∷ []) (lacks-by is_plain 10 (32 ∷ 40 ∷ []) refl refl)
    (lacks-append 10 version (41 ∷ []) (lacks-by is_plain 10 version refl plain) (lacks-by is_plain 10 (41 ∷ []) refl refl))

ident-lacks : (id : Ident) → HeldId id → Lacks 10 (print_ident id)
ident-lacks id held =
    let sound = no-fault (path_fault id.path) (version_fault id.version) held in
    lacks-append 10 id.path (print_version id.version) (lacks-by is_plain 10 id.path refl (path-plain id.path sound.0)) (version-lacks id.version sound.1)

-- ---- a page's name has neither LF nor a blank

is-name : (name : Bytes) → is_snapshot_name name ≡ true → list_all is_name_byte name ≡ true
is-name name h = right-part _ (list_all is_name_byte name) (right-part _ _ h)

name-or : (names : List Bytes) (k : ℕ) → AllByRecursion (λ name. is_snapshot_name name ≡ true) names → list_all is_name_byte (get_or names k final_name) ≡ true
name-or [] k h = refl
name-or (name ∷ names) zero h = is-name name h.0
name-or (name ∷ names) (suc k) h = name-or names k h.1

-- ---- what tells lines apart

-- items print alike nowhere and without LF, and so are the names of an item's pages, which have no blank either
pub record AreTelling (plan : Lookups) : Type 0 where
  pub items : (i : ℕ) → i < plan.count → Lacks 10 (item_text plan i)
  pub apart : PrintApart plan
  pub owners : (p : ℕ) → p < pairs plan.layout → item_of plan.layout p < plan.count
  pub names : (p : ℕ) → p < pairs plan.layout → Lacks 10 (plan.pair_name p) × Lacks 32 (plan.pair_name p)
  pub named : (p q : ℕ) → p < pairs plan.layout → q < pairs plan.layout → item_of plan.layout p ≡ item_of plan.layout q → plan.pair_name p ≡ plan.pair_name q → p ≡ q

module _ (plan : PlanView) (linked : IsLinkedPlan plan) where
  owner-item : (p : ℕ) → p < pairs (layout plan.items) → pair_owner plan p < length plan.items
  owner-item p lt = let near = layout-near (counts plan.items) (pair_owner plan p) p lt refl in omega (arith, near.0, length-map plan.items count_of)

  name-bytes : (p : ℕ) → p < pairs (layout plan.items) → list_all is_name_byte (pair_name_of plan p) ≡ true
  name-bytes p lt = name-or (saves (chain_at plan (pair_owner plan p))) _ (linked-chain plan (pair_owner plan p) linked (owner-item p lt)).saved

  pair-same : (p q : ℕ) → p < pairs (layout plan.items) → q < pairs (layout plan.items) → pair_owner plan p ≡ pair_owner plan q → pair_name_of plan p ≡ pair_name_of plan q → p ≡ q
  pair-same p q first second owners names =
      let one : pair_of plan (pair_owner plan p) (pair_name_of plan p) ≡ Some p = pair_of-name plan p linked first in
      let other : pair_of plan (pair_owner plan q) (pair_name_of plan q) ≡ Some q = pair_of-name plan q linked second in
      let same : Some p ≡ Some q = sym one ∙ (ap (λ i. pair_of plan i (pair_name_of plan p)) owners ∙ (ap (pair_of plan (pair_owner plan q)) names ∙ other)) in
      cc

  pub plan-tells : HasIdentifiers plan → PrintApart (lookups plan) → AreTelling (lookups plan)
  unfolding lookups
  plan-tells held apart =
      record {
        items = λ i lt. ident-lacks (id_at plan i) (all-at (λ item. HeldId item.0) plan.items i no_item held lt);
        apart = apart;
        owners = owner-item;
        names = λ p lt. (lacks-by is_name_byte 10 (pair_name_of plan p) refl (name-bytes p lt), lacks-by is_name_byte 32 (pair_name_of plan p) refl (name-bytes p lt));
        named = pair-same;
      }

-- ---- lines

module _ (plan : Lookups) where
  page_text : ℕ → Bytes
  page_text pair = item_text plan (item_of plan.layout pair) ++ 32 ∷ plan.pair_name pair

  -- an event's line without its end
  pub words : Event → Bytes
  words (Begin item) = codes "begin " ++ item_text plan item
  words (Saved pair) = codes "saved " ++ page_text pair
  words (Done item) = codes "done " ++ item_text plan item
  words (Failed item) = codes "failed " ++ item_text plan item

  pub line-words : (event : Event) → event_line plan event ≡ words event ++ 10 ∷ []
  unfolding words page_text
  line-words (Begin item) = sym (append_assoc (codes "begin ") (item_text plan item) (10 ∷ []))
  line-words (Saved pair) =
      sym (append_assoc (codes "saved ") (page_text pair) (10 ∷ []) ∙ ap (λ l. codes "saved " ++ l) (append_assoc (item_text plan (item_of plan.layout pair)) (32 ∷ plan.pair_name pair) (10 ∷ [])))
  line-words (Done item) = sym (append_assoc (codes "done ") (item_text plan item) (10 ∷ []))
  line-words (Failed item) = sym (append_assoc (codes "failed ") (item_text plan item) (10 ∷ []))

front-lacks : (front text : Bytes) → list_all is_plain front ≡ true → Lacks 10 text → Lacks 10 (front ++ text)
front-lacks front text plain h = lacks-append 10 front text (lacks-by is_plain 10 front refl plain) h

first_byte : Bytes → ℕ
first_byte text = get_or text 0 0

module _ (plan : Lookups) (tells : AreTelling plan) where
  abbrev IsWithin : Event → Type 0
  IsWithin event = IsEventWithin plan.count (pairs plan.layout) event

  page-lacks : (p : ℕ) → p < pairs plan.layout → Lacks 10 (page_text plan p)
  unfolding page_text
  page-lacks p lt =
      let item = tells.items (item_of plan.layout p) (tells.owners p lt) in
      lacks-append 10 (item_text plan (item_of plan.layout p)) (32 ∷ plan.pair_name p) item (front-lacks (32 ∷ []) (plan.pair_name p) refl (tells.names p lt).0)

  pub words-lack : (event : Event) → IsWithin event → Lacks 10 (words plan event)
  unfolding words
  words-lack (Begin item) lt = front-lacks (codes "begin ") (item_text plan item) refl (tells.items item lt)
  words-lack (Saved pair) lt = front-lacks (codes "saved ") (page_text plan pair) refl (page-lacks pair lt)
  words-lack (Done item) lt = front-lacks (codes "done ") (item_text plan item) refl (tells.items item lt)
  words-lack (Failed item) lt = front-lacks (codes "failed ") (item_text plan item) refl (tells.items item lt)

  -- the name is what follows the last blank
  page-same : (p q : ℕ) → p < pairs plan.layout → q < pairs plan.layout → page_text plan p ≡ page_text plan q → p ≡ q
  unfolding page_text
  page-same p q first second e =
      let i : ℕ = item_of plan.layout p in
      let j : ℕ = item_of plan.layout q in
      let apart = last-parts 32 (item_text plan i) (item_text plan j) (plan.pair_name p) (plan.pair_name q) (tells.names p first).1 (tells.names q second).1 e in
      tells.named p q first second (tells.apart i j (tells.owners p first) (tells.owners q second) apart.0) apart.1

  item-same : (front : Bytes) (i j : ℕ) → i < plan.count → j < plan.count → front ++ item_text plan i ≡ front ++ item_text plan j → i ≡ j
  item-same front i j first second e = tells.apart i j first second (append_cancel_left front (item_text plan i) (item_text plan j) e)

  -- events of different kinds begin with different bytes
  pub same-event : (one other : Event) → IsWithin one → IsWithin other → words plan one ≡ words plan other → one ≡ other
  unfolding words first_byte
  same-event (Begin i) (Begin j) first second e = ap Begin (item-same (codes "begin ") i j first second e)
  same-event (Saved p) (Saved q) first second e = ap Saved (page-same p q first second (append_cancel_left (codes "saved ") (page_text plan p) (page_text plan q) e))
  same-event (Done i) (Done j) first second e = ap Done (item-same (codes "done ") i j first second e)
  same-event (Failed i) (Failed j) first second e = ap Failed (item-same (codes "failed ") i j first second e)
  same-event one other first second e = let kinds = ap first_byte e in absurd (omega arith)

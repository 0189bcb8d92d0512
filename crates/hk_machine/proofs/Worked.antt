-- Small chains, run by hand: an item `a` that saves `s` and loads `b`, which loads `a` or its `s`.
use Rattle.std.proofs.Common.{◌≡◌, refl, ℕ, cond, List, [], ◌∷◌, Option, Some, None, nat_eq, codes}
use Rattle.hk_base.specs.Bytes.{Bytes}
use Rattle.hk_base.specs.Identifier.{Ident}
use Rattle.hk_chain.specs.Counts.{layout_of}
use Rattle.hk_chain.specs.declared.chain.Step.{Step}
use Rattle.hk_chain.specs.declared.chain.Step.TheVariants.{Body, Str, Copy, Make, Load, Concat, Save, Relativize}
use Rattle.hk_chain.specs.declared.page.Page.{Page}
use Rattle.hk_chain.specs.declared.page.Kind.TheVariants as kinds
use Rattle.hk_chain.specs.declared.fault.Fault.TheVariants.{Missing, NoSnapshot, WrongKind}
use Rattle.hk_pattern.specs.declared.pattern.Pattern.TheVariants.{HasNoVersion}
use Rattle.hk_fix.specs.Pages.{Pages, no_page, tell}
use Rattle.hk_fix.specs.Task.{used, saved, asked, note, done, fault, waits, Run, run}
use Rattle.hk_chain.specs.Names.{final_name}
use Rattle.hk_rules.specs.Plan.{Lookups, no_context}
use Rattle.hk_eval.specs.Asking.{text_page}
use Rattle.hk_machine.specs.Chain.{chain_task}

abbrev id_of : ℕ → Ident
id_of c = record { path = c ∷ []; version = None }

abbrev find_by : Bytes → Option ℕ
find_by [] = None
find_by (c ∷ rest) = cond (nat_eq c 97) (Some 0) (cond (nat_eq c 98) (Some 1) None)

-- `s` of the first item, and the finished pages
abbrev pair_by : ℕ → Bytes → Option ℕ
pair_by item [] = None
pair_by item (c ∷ rest) = cond (nat_eq c 115) (cond (nat_eq item 0) (Some 0) None) (cond (nat_eq c 95) (Some (cond (nat_eq item 0) 1 2)) None)

abbrev plan_of : List Step → List Step → Lookups
plan_of a b =
    record {
      count = 2;
      layout = layout_of (1 ∷ 0 ∷ []);
      id = λ item. id_of (cond (nat_eq item 0) 97 98);
      find = λ id. find_by id.path;
      chain = λ item. cond (nat_eq item 0) a b;
      target_of = λ item. Some (codes "p/q");
      resource = λ item. Some (cond (nat_eq item 0) (codes "x") (codes "y"));
      companion = λ item. None;
      body_start = λ item. 0;
      meta = λ item. [];
      pair = pair_by;
      pair_name = λ pair. final_name;
      context = λ number. no_context;
      pattern = λ number. HasNoVersion;
      matches = λ number. cond (nat_eq number 0) (0 ∷ 1 ∷ []) [];
    }

abbrev s_name : Bytes
s_name = codes "s"

abbrev x_page : Page
x_page = text_page (codes "x")

abbrev mutual_load : Lookups
mutual_load = plan_of (Body ∷ Save s_name ∷ Load (id_of 98) final_name ∷ []) (Load (id_of 97) s_name ∷ [])

-- the first saves its snapshot and waits for the second's page
first-saves : run (chain_task mutual_load 0) no_page ≡ (let r : Run Page = record { log = note (saved 0 x_page) ∷ asked (2 ∷ []) ∷ []; end = waits (2 ∷ []) } in r)
unfolding chain_task
first-saves = refl

-- which ends once the snapshot is known, though the first hasn't ended
second-ends : run (chain_task mutual_load 1) (tell no_page 0 x_page) ≡ (let r : Run Page = record { log = asked (0 ∷ []) ∷ []; end = done x_page } in r)
unfolding chain_task
second-ends = refl

-- without the snapshot they wait for one another
waits-first : run (chain_task (plan_of (Body ∷ Load (id_of 98) final_name ∷ []) (Load (id_of 97) final_name ∷ [])) 1) no_page ≡ (let r : Run Page = record { log = asked (1 ∷ []) ∷ []; end = waits (1 ∷ []) } in r)
unfolding chain_task
waits-first = refl

-- an item that isn't there, and a name under which nothing is saved
absent-item : run (chain_task (plan_of (Load (id_of 99) final_name ∷ []) []) 0) no_page ≡ (let r : Run Page = record { log = []; end = fault (Missing (id_of 99)) } in r)
unfolding chain_task
absent-item = refl

absent-name : run (chain_task (plan_of (Load (id_of 98) (codes "zz") ∷ []) []) 0) no_page ≡ (let r : Run Page = record { log = []; end = fault (NoSnapshot (id_of 98) (codes "zz")) } in r)
unfolding chain_task
absent-name = refl

abbrev both : Pages
both = tell (tell no_page 1 (text_page (codes "v"))) 2 (text_page (codes "w"))

-- a pattern's pages are asked for at once, and joined in item order
joins-in-order : run (chain_task (plan_of (Concat 0 ∷ []) []) 0) both ≡ (let r : Run Page = record { log = note (used 0) ∷ asked (1 ∷ 2 ∷ []) ∷ []; end = done (text_page (codes "vw")) } in r)
unfolding chain_task
joins-in-order = refl

waits-for-both : run (chain_task (plan_of (Concat 0 ∷ []) []) 0) no_page ≡ (let r : Run Page = record { log = note (used 0) ∷ asked (1 ∷ 2 ∷ []) ∷ []; end = waits (1 ∷ 2 ∷ []) } in r)
unfolding chain_task
waits-for-both = refl

-- a kind is tested when all pages are there
waits-before-kinds : run (chain_task (plan_of (Concat 0 ∷ []) []) 0) (tell no_page 1 (record { kind = kinds.File; body = [] })) ≡ (let r : Run Page = record { log = note (used 0) ∷ asked (1 ∷ 2 ∷ []) ∷ []; end = waits (2 ∷ []) } in r)
unfolding chain_task
waits-before-kinds = refl

first-other-kind : run (chain_task (plan_of (Concat 0 ∷ []) []) 0) (tell both 2 (record { kind = kinds.Template; body = [] })) ≡ (let r : Run Page = record { log = note (used 0) ∷ asked (1 ∷ 2 ∷ []) ∷ []; end = fault (WrongKind (id_of 98)) } in r)
unfolding chain_task
first-other-kind = refl

-- no item gives no group
joins-nothing : run (chain_task (plan_of (Concat 1 ∷ []) []) 0) no_page ≡ (let r : Run Page = record { log = note (used 1) ∷ []; end = done (text_page []) } in r)
unfolding chain_task
joins-nothing = refl

-- a file's links stay as they are, which is a fault
file-stays : run (chain_task (plan_of (Copy ∷ Relativize ∷ []) []) 0) no_page ≡ (let r : Run Page = record { log = []; end = fault (WrongKind (id_of 97)) } in r)
unfolding chain_task
file-stays = refl

-- each step takes the page of the one before; a chain begins without bytes
begins-empty : run (chain_task (plan_of (Make (codes "m") ∷ Str ∷ []) []) 1) no_page ≡ (let r : Run Page = record { log = []; end = done (text_page []) } in r)
unfolding chain_task
begins-empty = refl

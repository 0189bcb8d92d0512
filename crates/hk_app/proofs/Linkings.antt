-- What the testing of a plan's links comes to.
use Rattle.std.proofs.Common.{◌≡◌, ◌≤◌, Bool, true, false, refl, sym, ap, subst, ◌∙◌, arith, IfSome, IfOk, Result, Ok, Err}
use Rattle.hk_base.specs.Bytes.{Bytes}
use Rattle.hk_base.specs.declared.refusal.NoMemory.{NoMemory as NoMemory-data}
use Rattle.hk_build.specs.Linked.{AreLines, all_lead, link_lines}
use Rattle.hk_build.specs.Pages.{pages_at}
use Rattle.hk_build.specs.declared.links.LinkLines.{LinkLines}
use Rattle.hk_chain.specs.Kept.{at_place}
use Rattle.hk_fix.specs.Results.{ResultsView}
use Rattle.hk_rules.specs.PlanView.{PlanView}
use Rattle.hk_words.specs.declared.commands.Command.TheVariants.{Links}
use Rattle.hk_app.specs.declared.checking.Compiled.{Compiled}
use Rattle.hk_app.specs.declared.checking.Compiled.TheVariants.{Stopped, Whole}
use Rattle.hk_app.specs.declared.ended.Ended.{Ended}
use Rattle.hk_app.specs.declared.status.Status.{Status}
use Rattle.hk_app.specs.declared.status.Status.TheVariants.{Ok as Done, Report, Usage, BadRules, BadSite, ReadFault, WriteFault, StoreFault, OutFault, NoMemory, BadLinks}
use Rattle.hk_app.specs.Checking.{CompilesTo, IsWhole}
use Rattle.hk_app.specs.Linking.{EndsLinks, EndsTested, status_of}
use Rattle.hk_app.specs.Promise.{AllEnd, Comes, HasLinks, IsNamed, IsPlanOf, page_list}
use Rattle.hk_app.specs.Run.{EndsAs}
use Rattle.hk_app.specs.Standing.{Same}
use Rattle.hk_app.specs.Taking.{nothing}
use Rattle.hk_app.specs.World.{Folder, folders}
use Rattle.hk_app.proofs.Endings.{plans-of, told-self}

pub stopped-links : (plan p : PlanView) (x : Compiled) (e : Ended) → p ≡ plan → x ≡ Stopped e → CompilesTo p x → EndsLinks plan e
stopped-links plan p x e same is h =
    let w = subst (CompilesTo plan) is (subst (λ q. CompilesTo q x) same h) in
    subst (λ s. EndsTested plan s e.text) (sym w.0) w.1

-- the status goes by whether each link leads somewhere
tested-as : (plan : PlanView) (b : Bool) (status : Status) (text : Bytes) → AllEnd plan nothing → all_lead (page_list plan) ≡ b → text ≡ link_lines (page_list plan) → status ≡ status_of b → EndsTested plan status text
tested-as plan true status text all lead said is = subst (λ s. EndsTested plan s text) (sym is) (record { all = all; links = lead; text = said })
tested-as plan false status text all lead said is = subst (λ s. EndsTested plan s text) (sym is) (record { all = all; links = lead; text = said })

pub whole-links : (plan p q : PlanView) (x : Compiled) (results : ResultsView) (lines : LinkLines) (e : Ended) → p ≡ plan → q ≡ p → x ≡ Whole results → CompilesTo p x
    → AreLines (pages_at q (at_place results.pages)) lines → e.status ≡ status_of lines.all_lead → e.text ≡ lines.text → EndsLinks plan e
whole-links plan p q x results lines e is same whole h shown status text =
    let w : IsWhole plan results = subst (CompilesTo plan) whole (subst (λ v. CompilesTo v x) is h) in
    let there : pages_at q (at_place results.pages) ≡ page_list plan = ap (λ v. pages_at v (at_place results.pages)) (same ∙ is) ∙ ap (pages_at plan) w.results.pages in
    let told : AreLines (page_list plan) lines = subst (λ ps. AreLines ps lines) there shown in
    tested-as plan lines.all_lead e.status e.text w.all (sym told.all) (text ∙ told.text) status

-- ---- the command, over a source that was read

module _ (source source' site cache : Folder) (plan : PlanView) (read : IfSome source.files (λ m. IsPlanOf m plan)) where
  links-come : (status : Status) (text : Bytes) → EndsTested plan status text → Comes Links (folders source site cache) (folders source' site cache) status text
  links-come Done text h = record { site = refl; cache = refl; run = plans-of (folders source site cache) (HasLinks true text) plan read h }
  links-come Report text h = record { site = refl; cache = refl; run = plans-of (folders source site cache) (IsNamed text) plan read h }
  links-come Usage text h = absurd h
  links-come BadRules text h = absurd h
  links-come BadSite text h = absurd h
  links-come ReadFault text h = absurd h
  links-come WriteFault text h = absurd h
  links-come StoreFault text h = absurd h
  links-come OutFault text h = absurd h
  links-come NoMemory text h = absurd h
  links-come BadLinks text h = record { site = refl; cache = refl; run = plans-of (folders source site cache) (HasLinks false text) plan read h }

  pub links-task : Same source source' → source.faults ≤ source'.faults → (r : Result Ended NoMemory-data) → IfOk r (EndsLinks plan) → EndsAs Links (folders source site cache) (folders source' site cache) r
  links-task same later (Ok e) h =
      record {
        always = record { source = same; source_count = later; site_count = omega arith; site_told = told-self site.files; cache_count = omega arith; cache_told = told-self cache.files };
        comes = links-come e.status e.text h;
      }
  links-task same later (Err e) h =
      record {
        always = record { source = same; source_count = later; site_count = omega arith; site_told = told-self site.files; cache_count = omega arith; cache_told = told-self cache.files };
        leaves = record { site = refl; cache = refl };
      }

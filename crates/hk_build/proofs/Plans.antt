-- Threads may pass a plan on and share it.
use denote.Hole.FixSend.{Crosses, both_send, both_sync}
use denote.Struct.Field.{row_field}
use denote.Struct.Tuple.{Tuple, tuple_type}
use mathlib.Core.List.{[], ◌∷◌}
use Rattle.std.proofs.Common.{rules}
use denote.Param.Send.{IsSend, IsSync, view_send, view_sync}
use denote.Param.SendFields.{declared_send, declared_sync, variants_send, variants_sync, as_row_send, as_row_sync}
use Rattle.std.proofs.option.Option.TheSendSync as option
use Rattle.std.proofs.Crossing.{Vec-send, Vec-sync}
use Rattle.sqlite_items.proofs.boxed.Boxed.TheSendSync as boxed
use Rattle.sqlite_items.proofs.items.Items.TheSendSync as items
use Rattle.hk_base.proofs.identifier.Identifier.TheSendSync as ident
use Rattle.hk_base.proofs.shared.Shared.TheSendSync as shared
use Rattle.hk_base.proofs.text.Text.TheSendSync as text
use Rattle.hk_base.specs.contracts.identifier.Identifier as Ident
use Rattle.hk_base.specs.contracts.shared.Shared as Shared
use Rattle.hk_base.specs.contracts.text.Text as Text
use Rattle.hk_chain.proofs.chain.Chain.TheSendSync as chain
use Rattle.hk_chain.proofs.context.Context.TheSendSync as context
use Rattle.hk_chain.proofs.layout.Layout.TheSendSync as layout
use Rattle.hk_chain.specs.contracts.layout.Layout as Layout
use Rattle.hk_meta.proofs.answer.Split.TheSendSync as split
use Rattle.hk_pattern.proofs.glob.Glob.TheSendSync as glob
use Rattle.hk_pattern.specs.contracts.pattern.Pattern as pattern
use Rattle.hk_pattern.specs.contracts.pattern.Pattern.TheKnot as patterns
use Rattle.hk_route.specs.contracts.route.Route as route
use Rattle.hk_route.specs.contracts.route.Route.TheKnot as routes
use Rattle.hk_rules_file.specs.contracts.rules.Rule as rule
use Rattle.hk_rules_file.specs.contracts.rules.RuleSource as source
use Rattle.hk_rules_file.proofs.tables.FeedKind.TheSendSync as kind
use Rattle.hk_rules_file.specs.contracts.tables.FeedRule as feed
use Rattle.hk_rules.proofs.matched.Matched.TheSendSync as matched
use Rattle.hk_rules.proofs.source_file.SourceFile.TheSendSync as file
use Rattle.hk_rules.specs.contracts.owner.Owner as owner
use Rattle.hk_rules.specs.contracts.plan.Plan as plan
use Rattle.hk_rules.specs.contracts.plan.Plan.TheInside as inside
use Rattle.hk_rules.specs.contracts.source_file.SourceFile as SourceFile

pattern-crosses : (i : patterns.the_members) → Crosses patterns.ring i
pattern-crosses = pattern.by_members (λ i. Crosses patterns.ring i) record {
  send = λ h s y. variants_send (patterns.type-Pattern (h patterns.member-Pattern) (h patterns.member-Pattern) (h patterns.member-Pattern)) ((glob.the_send, tt), ((items.the_send Ident.the_row ident.the_send, tt), ((as_row_send (row_field _) (items.the_send (h patterns.member-Pattern) (s patterns.member-Pattern)), tt), ((as_row_send (row_field _) (items.the_send (h patterns.member-Pattern) (s patterns.member-Pattern)), tt), ((as_row_send (row_field _) (boxed.the_send (h patterns.member-Pattern) (s patterns.member-Pattern)), tt), ((text.the_send, tt), (tt, tt)))))));
  sync = λ h s y. variants_sync (patterns.type-Pattern (h patterns.member-Pattern) (h patterns.member-Pattern) (h patterns.member-Pattern)) ((glob.the_sync, tt), ((items.the_sync Ident.the_row ident.the_sync, tt), ((as_row_sync (row_field _) (items.the_sync (h patterns.member-Pattern) (y patterns.member-Pattern)), tt), ((as_row_sync (row_field _) (items.the_sync (h patterns.member-Pattern) (y patterns.member-Pattern)), tt), ((as_row_sync (row_field _) (boxed.the_sync (h patterns.member-Pattern) (y patterns.member-Pattern)), tt), ((text.the_sync, tt), (tt, tt)))))));
}

pattern-hole-send : IsSend patterns.hole-Pattern
pattern-hole-send = both_send patterns.ring pattern-crosses patterns.member-Pattern

pub pattern_send : IsSend pattern.the_row
pattern_send = variants_send pattern.enum ((glob.the_send, tt), ((items.the_send Ident.the_row ident.the_send, tt), ((as_row_send (row_field _) (items.the_send patterns.hole-Pattern pattern-hole-send), tt), ((as_row_send (row_field _) (items.the_send patterns.hole-Pattern pattern-hole-send), tt), ((as_row_send (row_field _) (boxed.the_send patterns.hole-Pattern pattern-hole-send), tt), ((text.the_send, tt), (tt, tt)))))))

pattern-hole-sync : IsSync patterns.hole-Pattern
pattern-hole-sync = both_sync patterns.ring pattern-crosses patterns.member-Pattern

pub pattern_sync : IsSync pattern.the_row
pattern_sync = variants_sync pattern.enum ((glob.the_sync, tt), ((items.the_sync Ident.the_row ident.the_sync, tt), ((as_row_sync (row_field _) (items.the_sync patterns.hole-Pattern pattern-hole-sync), tt), ((as_row_sync (row_field _) (items.the_sync patterns.hole-Pattern pattern-hole-sync), tt), ((as_row_sync (row_field _) (boxed.the_sync patterns.hole-Pattern pattern-hole-sync), tt), ((text.the_sync, tt), (tt, tt)))))))

route-crosses : (i : routes.the_members) → Crosses routes.ring i
route-crosses = route.by_members (λ i. Crosses routes.ring i) record {
  send = λ h s y. variants_send (routes.type-Route (h routes.member-Route) (h routes.member-Route) (h routes.member-Route)) (tt, ((text.the_send, tt), ((text.the_send, tt), ((text.the_send, (text.the_send, tt)), ((pattern_send, (as_row_send (row_field _) (boxed.the_send (h routes.member-Route) (s routes.member-Route)), tt)), ((as_row_send (row_field _) (items.the_send (h routes.member-Route) (s routes.member-Route)), tt), ((as_row_send (row_field _) (items.the_send (h routes.member-Route) (s routes.member-Route)), tt), tt)))))));
  sync = λ h s y. variants_sync (routes.type-Route (h routes.member-Route) (h routes.member-Route) (h routes.member-Route)) (tt, ((text.the_sync, tt), ((text.the_sync, tt), ((text.the_sync, (text.the_sync, tt)), ((pattern_sync, (as_row_sync (row_field _) (boxed.the_sync (h routes.member-Route) (y routes.member-Route)), tt)), ((as_row_sync (row_field _) (items.the_sync (h routes.member-Route) (y routes.member-Route)), tt), ((as_row_sync (row_field _) (items.the_sync (h routes.member-Route) (y routes.member-Route)), tt), tt)))))));
}

route-hole-send : IsSend routes.hole-Route
route-hole-send = both_send routes.ring route-crosses routes.member-Route

pub route_send : IsSend route.the_row
route_send = variants_send route.enum (tt, ((text.the_send, tt), ((text.the_send, tt), ((text.the_send, (text.the_send, tt)), ((pattern_send, (as_row_send (row_field _) (boxed.the_send routes.hole-Route route-hole-send), tt)), ((as_row_send (row_field _) (items.the_send routes.hole-Route route-hole-send), tt), ((as_row_send (row_field _) (items.the_send routes.hole-Route route-hole-send), tt), tt)))))))

route-hole-sync : IsSync routes.hole-Route
route-hole-sync = both_sync routes.ring route-crosses routes.member-Route

pub route_sync : IsSync route.the_row
route_sync = variants_sync route.enum (tt, ((text.the_sync, tt), ((text.the_sync, tt), ((text.the_sync, (text.the_sync, tt)), ((pattern_sync, (as_row_sync (row_field _) (boxed.the_sync routes.hole-Route route-hole-sync), tt)), ((as_row_sync (row_field _) (items.the_sync routes.hole-Route route-hole-sync), tt), ((as_row_sync (row_field _) (items.the_sync routes.hole-Route route-hole-sync), tt), tt)))))))

source_send : IsSend source.the_row
source_send = variants_send source.enum ((pattern_send, tt), ((items.the_send Ident.the_row ident.the_send, tt), tt))

rule_send : IsSend rule.the_row
rule_send = declared_send rule.the_type (source_send, (option.the_send Text.the_row text.the_send, (option.the_send route.the_row route_send, (chain.the_send, tt))))

source_sync : IsSync source.the_row
source_sync = variants_sync source.enum ((pattern_sync, tt), ((items.the_sync Ident.the_row ident.the_sync, tt), tt))

rule_sync : IsSync rule.the_row
rule_sync = declared_sync rule.the_type (source_sync, (option.the_sync Text.the_row text.the_sync, (option.the_sync route.the_row route_sync, (chain.the_sync, tt))))

feed_send : IsSend feed.the_row
feed_send = declared_send feed.the_type (kind.the_send, (text.the_send, (pattern_send, (text.the_send, (text.the_send, (text.the_send, (text.the_send, (option.the_send Text.the_row text.the_send, (text.the_send, (search rules, tt))))))))))

owner_send : IsSend owner.the_row
owner_send = declared_send owner.the_type (shared.the_send rule.the_row rule_send rule_sync, (option.the_send (Shared.the_row SourceFile.the_row) (shared.the_send SourceFile.the_row file.the_send file.the_sync), tt))

inside_send : IsSend inside.the_row
inside_send = declared_send inside.the_type (Vec-send (Tuple (Ident.the_row ∷ owner.the_row ∷ [])) (declared_send (tuple_type (Ident.the_row ∷ owner.the_row ∷ [])) (as_row_send (row_field _) ident.the_send, (as_row_send (row_field _) owner_send, tt))), (Vec-send _ split.the_send, (Vec-send _ (option.the_send Text.the_row text.the_send), (Vec-send _ context.the_send, (Vec-send _ pattern_send, (Vec-send _ feed_send, (shared.the_send Layout.the_row layout.the_send layout.the_sync, (Vec-send _ matched.the_send, tt))))))))

pub plan_send : IsSend plan.the_row
plan_send = view_send _ _ _ _ _ inside_send

feed_sync : IsSync feed.the_row
feed_sync = declared_sync feed.the_type (kind.the_sync, (text.the_sync, (pattern_sync, (text.the_sync, (text.the_sync, (text.the_sync, (text.the_sync, (option.the_sync Text.the_row text.the_sync, (text.the_sync, (search rules, tt))))))))))

owner_sync : IsSync owner.the_row
owner_sync = declared_sync owner.the_type (shared.the_sync rule.the_row rule_send rule_sync, (option.the_sync (Shared.the_row SourceFile.the_row) (shared.the_sync SourceFile.the_row file.the_send file.the_sync), tt))

inside_sync : IsSync inside.the_row
inside_sync = declared_sync inside.the_type (Vec-sync (Tuple (Ident.the_row ∷ owner.the_row ∷ [])) (declared_sync (tuple_type (Ident.the_row ∷ owner.the_row ∷ [])) (as_row_sync (row_field _) ident.the_sync, (as_row_sync (row_field _) owner_sync, tt))), (Vec-sync _ split.the_sync, (Vec-sync _ (option.the_sync Text.the_row text.the_sync), (Vec-sync _ context.the_sync, (Vec-sync _ pattern_sync, (Vec-sync _ feed_sync, (shared.the_sync Layout.the_row layout.the_send layout.the_sync, (Vec-sync _ matched.the_sync, tt))))))))

pub plan_sync : IsSync plan.the_row
plan_sync = view_sync _ _ _ _ _ inside_sync

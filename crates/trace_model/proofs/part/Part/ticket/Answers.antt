use Rattle.std.proofs.Common.{◌≡◌, ◌+◌, ◌<◌, List, length, ap, sym, ◌∙◌, arith}
use Rattle.std.specs.List.{slice_get}
use Rattle.std.proofs.lemmas.Option.{slice_get_read}
use Rattle.trace_model.specs.declared.part.Source.{Source}
use Rattle.trace_model.specs.Run.{Entry}
use Rattle.trace_model.specs.inner.Sources.{entries_of}
use Rattle.trace_model.proofs.Telling.{phaser_length, finish_length, ticket_here, phaser_ticket, finish_ticket}
use Rattle.trace_model.proofs.part.Part.ticket.Goals as goal

pub index-requires : goal.index-requires
index-requires c =
    let p = c.in-Phaser in
    omega (arith, c.requires, phaser_length c.self.inside.source p.field-0 p.field-1 p.tickets c.args.self.now p.is c.self.invariant c.self.view_is, p.tickets.ok.0)

pub overflow_add-first : goal.overflow_add-first
overflow_add-first c =
    let p = c.in-Finish in
    omega (arith, c.requires, finish_length c.self.inside.source p.field-0 p.field-1 p.tickets p.first c.args.self.now p.is c.self.invariant c.self.view_is, p.tickets.ok.0, p.tickets.small)

pub index-requires-in-Finish : goal.index-requires-in-Finish
index-requires-in-Finish c =
    let p = c.in-Finish in
    omega (arith, c.requires, finish_length c.self.inside.source p.field-0 p.field-1 p.tickets p.first c.args.self.now p.is c.self.invariant c.self.view_is, p.tickets.ok.0)

pub returns-in-Phaser : goal.returns-in-Phaser
returns-in-Phaser c =
    let p = c.in-Phaser in
    let inside : c.args.place < length p.tickets.items =
    omega (arith, c.requires, phaser_length c.self.inside.source p.field-0 p.field-1 p.tickets c.args.self.now p.is c.self.invariant c.self.view_is) in
    phaser_ticket c.self.inside.source p.field-0 p.field-1 p.tickets c.args.self.now c.args.place c.index.result.now p.is c.self.invariant c.self.view_is inside c.index.ensures

pub returns-in-Finish : goal.returns-in-Finish
returns-in-Finish c =
    let p = c.in-Finish in
    let inside : p.first + c.args.place < length p.tickets.items =
    omega (arith, c.requires, finish_length c.self.inside.source p.field-0 p.field-1 p.tickets p.first c.args.self.now p.is c.self.invariant c.self.view_is) in
    finish_ticket c.self.inside.source p.field-0 p.field-1 p.tickets p.first c.args.self.now c.args.place c.index-in-Finish.result.now p.is c.self.invariant c.self.view_is inside c.index-in-Finish.ensures

pub returns-in-Log : goal.returns-in-Log
returns-in-Log c =
    let es = c.entries.result.now in
    let e = c.index-entries-place.result in
    let same : es ≡ c.args.self.now = c.entries.ensures ∙ (sym (ap (λ (x : Source). entries_of x) c.in-Log.is) ∙ c.self.view_is) in
    let inside : c.args.place < length es = omega (arith, c.requires, ap (λ (l : List Entry). length l) same) in
    ticket_here c.args.self.now c.args.place _ e
    (ap (λ (l : List Entry). slice_get l c.args.place) (sym same)
    ∙ slice_get_read es (length es) c.args.place e (omega arith) inside c.index-entries-place.is)
    (sym (ap (λ (x : Entry). x.0) c.index-entries-place.is))

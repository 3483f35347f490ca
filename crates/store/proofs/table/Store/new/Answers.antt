use Rattle.std.proofs.Common.{◌∙◌, sym, ap, subst}
use Rattle.model.specs.Calls.{new}
use Rattle.model.specs.Lawful.{Lawful}
use Rattle.model.proofs.NewStore.{lawful_new}
use Rattle.store.specs.Lent.{Lent}
use Rattle.store.specs.Sizes.{size_over}
use Rattle.store.proofs.Fitting.{size_few, none_written, made}
use Rattle.store.proofs.Views.{lawful_store}
use Rattle.store.proofs.table.Store.new.Goals as goal

pub invariant_of-result-2 : goal.invariant_of-result-2
invariant_of-result-2 g c =
    let t = c.tables.inside in
    let lent : Lent g.row.K.Denot = record { records = t.records; heads = t.heads; list = t.list; work = t.work } in
    let size = c.size-n.ensures.value ∙ sym (ap size_over c.tables.view_is) in
    let store = made g.K.Kind lent _ _ c.blank_records.new.records c.chain_heads.new.heads size c.min.ensures
    c.blank_records.auto.records c.chain_heads.auto.heads c.blank_records.ensures.after c.chain_heads.ensures.after in
    record { lawful = ∣ subst (Lawful g.K.Kind.shape) (sym store) (lawful_new g.K.Kind.shape (size_over lent) (size_few lent)) ∣₁ }

pub returns : goal.returns
returns g c =
    let t = c.tables.inside in
    let lent : Lent g.row.K.Denot = record { records = t.records; heads = t.heads; list = t.list; work = t.work } in
    let same = c.tables.view_is in
    let size = c.size-n.ensures.value in
    record {
      store = made g.K.Kind lent _ _ c.blank_records.new.records c.chain_heads.new.heads (size ∙ sym (ap size_over same)) c.min.ensures
          c.blank_records.auto.records c.chain_heads.auto.heads c.blank_records.ensures.after c.chain_heads.ensures.after
          ∙ ap (λ s. new g.K.Kind.shape (size_over s)) same;
      lawful = lawful_store g.K.Kind _;
      untouched = λ z. (none_written _ _ _ c.blank_records.auto.records (size ∙ z) ∙ ap (λ s. s.records.now) same, none_written _ _ _ c.chain_heads.auto.heads (size ∙ z) ∙ ap (λ s. s.heads.now) same);
      others = (ap (λ s. s.list.now) same, ap (λ s. s.work.now) same);
    }

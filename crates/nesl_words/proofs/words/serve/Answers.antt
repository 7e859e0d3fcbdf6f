use Rattle.std.proofs.Common.{◌∙◌, ap, codes}
use Rattle.clap.specs.Simple.{new_shape, shape_of_fields}
use Rattle.nesl_words.specs.Rules.{port_rule, workers_rule, connections_rule, web_rule, web_host_rule, lessons_rule, idle_rule, first_line_rule, log_rule, stats_rule, keep_rule, keys_file_rule, user_header_rule, bind_rule, users_file_rule, check_rule, control_rule, metrics_rule, log_file_rule, further_users_rule}
use Rattle.nesl_words.specs.Shapes.{IsShaped}
use Rattle.nesl_words.proofs.words.serve.Goals as goal

pub returns : goal.returns
returns c =
    let is_named : IsShaped (new_shape (codes "serve")) c.after_help-named.result = (
      ap shape_of_fields c.after_help-named.ensures ∙ ap shape_of_fields c.about.ensures ∙ ap (λ app. app.top) c.new.ensures.app,
      ap (λ fields. fields.has_globals) c.after_help-named.ensures ∙ ap (λ fields. fields.has_globals) c.about.ensures ∙ c.new.ensures.local,
    ) in
    let has_port = c.with_option-with_port.ensures (new_shape (codes "serve")) port_rule c.port.ensures.rule is_named in
    let has_workers = c.with_option-with_workers.ensures _ workers_rule c.workers.ensures.rule has_port in
    let has_connections = c.with_option-with_connections.ensures _ connections_rule c.connections.ensures.rule has_workers in
    let has_web = c.with_option-with_web.ensures _ web_rule c.web.ensures.rule has_connections in
    let has_web_host = c.with_option-with_web_host.ensures _ web_host_rule c.web_host.ensures.rule has_web in
    let has_lessons = c.with_option-with_lessons.ensures _ lessons_rule c.lessons.ensures.rule has_web_host in
    let has_idle = c.with_option-with_idle.ensures _ idle_rule c.idle.ensures.rule has_lessons in
    let has_first_line = c.with_option-with_first_line.ensures _ first_line_rule c.first_line.ensures.rule has_idle in
    let has_log = c.with_option-with_log.ensures _ log_rule c.log.ensures.rule has_first_line in
    let has_stats = c.with_option-with_stats.ensures _ stats_rule c.stats.ensures.rule has_log in
    let has_keep = c.with_option-with_keep.ensures _ keep_rule c.kept_folder.ensures.rule has_stats in
    let has_keys = c.with_option-with_keys.ensures _ keys_file_rule c.keys_file.ensures.rule has_keep in
    let has_header = c.with_option-with_header.ensures _ user_header_rule c.user_header.ensures.rule has_keys in
    let has_bind = c.with_option-with_bind.ensures _ bind_rule c.bind.ensures.rule has_header in
    let has_limits = c.with_limits-with_bounds.ensures _ has_bind in
    let has_users = c.with_option-with_users.ensures _ users_file_rule c.users_file.ensures.rule has_limits in
    let has_check = c.with_option-with_check.ensures _ check_rule c.check.ensures.rule has_users in
    let has_control = c.with_option-with_control.ensures _ control_rule c.control_path.ensures.rule has_check in
    let has_metrics = c.with_option-with_metrics.ensures _ metrics_rule c.metrics.ensures.rule has_control in
    let has_log_file = c.with_option-with_log_file.ensures _ log_file_rule c.log_file.ensures.rule has_metrics in
    c.with_option.ensures _ further_users_rule c.further_users.ensures.rule has_log_file
